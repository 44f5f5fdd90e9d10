use Rattle.std.proofs.Common.{◌≡◌, ◌+◌, drop}
use Rattle.nl_dirs.specs.Records.{sizes}
use Rattle.nl_check.proofs.directories.size_of_all.Given as goal

abbrev pub invariant-loop-record : goal.invariant-loop-record
invariant-loop-record l = l.size + sizes (drop l.record-index l.records) ≡ sizes l.records
