use Rattle.std.proofs.Common.{◌≡◌, ◌≢◌, ◌+◌, ◌*◌, ◌<◌, ◌≤◌, ℕ, suc, Bool, List, length}
use Rattle.std.specs.Option.{IsSome}
use Rattle.nl_types.specs.Blocks.Roots.{OfTree, Root, kind_of}
use Rattle.nl_blocktree.specs.Walked.{HasMet}
use Rattle.nl_blocktree.specs.Private.Walks.{IsNode, IsVisited, unmet}
use Rattle.nl_blocktree.proofs.walking.meet_data.Given as goal

abbrev pub invariant-loop-slot : goal.invariant-loop-slot
invariant-loop-slot g l = record {
  within : (v : ℕ) → IsSome (g.V.VRead.pages l.store v) → v < length l.met;
  same_count : length l.met ≡ length l.initial.met;
  fewer : unmet l.met ≤ unmet l.initial.met;
  walked : (root : Root) (p : ℕ) (old : List Bool) → kind_of root ≢ OfTree
      → IsNode (g.V.VRead.pages l.store) root p l.page
      → HasMet (g.V.VRead.pages l.store) root (IsVisited (suc p) (127 * p)) old l.initial.met
      → HasMet (g.V.VRead.pages l.store) root (IsVisited (suc p) (127 * p + l.slot)) old l.met;
}
