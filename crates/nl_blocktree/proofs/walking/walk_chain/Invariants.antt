use Rattle.std.proofs.Common.{◌≡◌, ◌+◌, ◌*◌, ◌<◌, ◌≤◌, ℕ, Some, length}
use Rattle.std.specs.Option.{IsSome}
use Rattle.nl_types.specs.Blocks.Roots.{Chain, place_at}
use Rattle.nl_blocktree.specs.Walked.{HasMet}
use Rattle.nl_blocktree.specs.Private.Walks.{IsVisited, unmet}
use Rattle.nl_blocktree.proofs.walking.walk_chain.Given as goal

abbrev pub invariant-nodes : goal.invariant-nodes
invariant-nodes g l = record {
  within : (v : ℕ) → IsSome (g.V.VRead.pages l.store v) → v < length l.met;
  same_count : length l.met ≡ length l.initial.met;
  left : l.position + unmet l.met ≤ length l.initial.met;
  top : IsSome (place_at (g.V.VRead.pages l.store) (Chain l.fn.first) 1 0);
  at : place_at (g.V.VRead.pages l.store) (Chain l.fn.first) 1 l.position ≡ Some l.number;
  walked : HasMet (g.V.VRead.pages l.store) (Chain l.fn.first)
      (IsVisited l.position (127 * l.position)) l.initial.met l.met;
}

abbrev pub decreases-nodes : goal.decreases-nodes
decreases-nodes g l = unmet l.met
