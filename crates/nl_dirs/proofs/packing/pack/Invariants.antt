use Rattle.std.proofs.Common.{take}
use Rattle.nl_dirs.proofs.Packings.{IsPackedSoFar}
use Rattle.nl_dirs.proofs.packing.pack.Given as goal

abbrev pub invariant-loop-record : goal.invariant-loop-record
invariant-loop-record l =
    IsPackedSoFar (take l.record-index l.records) l.blocks.items l.filling.bytes l.filling.used
