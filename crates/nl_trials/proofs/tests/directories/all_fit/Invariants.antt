use Rattle.std.proofs.Common.{take}
use Rattle.std.specs.List.{All}
use Rattle.nl_dirs.specs.Records.{RecordHasSpelling}
use Rattle.nl_trials.proofs.tests.directories.all_fit.Given as goal

abbrev pub invariant-loop-record : goal.invariant-loop-record
invariant-loop-record l = All RecordHasSpelling (take l.record-index l.records)
