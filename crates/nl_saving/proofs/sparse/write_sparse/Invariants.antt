use Rattle.std.proofs.Common.{◌≡◌, ◌-◌, [], Some, length, take}
use Rattle.nl_saving.specs.Extents.{IsBound}
use Rattle.nl_saving.proofs.sparse.write_sparse.Given as goal

abbrev pub invariant-loop-extent : goal.invariant-loop-extent
invariant-loop-extent g l = record {
  bound : IsBound (length l.bytes) l.at;
  written : g.F.SparseFile.holds l.fn.file ≡ Some []
      → g.F.SparseFile.holds l.file ≡ Some (take l.at l.bytes);
}

abbrev pub decreases-loop-extent : goal.decreases-loop-extent
decreases-loop-extent g l = length l.bytes - l.at
