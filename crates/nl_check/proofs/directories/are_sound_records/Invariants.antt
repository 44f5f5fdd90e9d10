use Rattle.std.proofs.Common.{◌<◌, ℕ, get_or}
use Rattle.nl_dirs.specs.declared.record.Record.{Record}
use Rattle.nl_check.specs.Private.SoundFiles.{IsSoundRecord}
use Rattle.nl_check.proofs.directories.are_sound_records.Given as goal

abbrev pub invariant-loop-record : goal.invariant-loop-record
invariant-loop-record l = (k : ℕ) (d : Record) → k < l.record-index → IsSoundRecord (get_or l.records k d)
