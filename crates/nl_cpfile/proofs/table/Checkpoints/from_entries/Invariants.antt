use Rattle.std.proofs.Common.{take}
use Rattle.std.specs.List.{AllZip}
use Rattle.nl_cpfile.specs.Images.{IsEntryOf}
use Rattle.nl_cpfile.proofs.table.Checkpoints.from_entries.Given as goal

abbrev pub invariant-loop-entry : goal.invariant-loop-entry
invariant-loop-entry l = AllZip IsEntryOf l.earlier.items (take l.entry-index l.rest)
