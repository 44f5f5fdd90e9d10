use Rattle.std.proofs.Common.{◌≡◌, ◌+◌, ◌-◌, ◌*◌, ◌^◌, ◌<◌, ◌≤◌, ℕ, Some, length}
use Rattle.std.specs.Option.{IsSome}
use Rattle.std.specs.Prelude.{IfSome}
use Rattle.nl_types.specs.Blocks.Roots.{Tree, place_at}
use Rattle.nl_blocktree.specs.Private.Walks.{IsMetUnder}
use Rattle.nl_blocktree.proofs.tree_walk.+walk_below.Given as goal

abbrev pub decreases-walk_below : goal.decreases-walk_below
decreases-walk_below g l = l.level

abbrev pub invariant-loop-slot : goal.invariant-loop-slot
invariant-loop-slot g l = record {
  within : (v : ℕ) → IsSome (g.V.VRead.pages l.store v) → v < length l.met;
  same_count : length l.met ≡ length l.initial.met;
  small : IfSome l.count (λ count. count < 2 ^ 50);
  walked : (height top : ℕ) → l.level ≤ height → place_at (g.V.VRead.pages l.store)
      (Tree height top) l.level l.offset ≡ Some l.fn.number
      → IsMetUnder (g.V.VRead.pages l.store) (Tree height top) (l.level - 1) (128 * l.offset)
      (128 * l.offset + l.slot) l.initial.met l.met l.count;
}
