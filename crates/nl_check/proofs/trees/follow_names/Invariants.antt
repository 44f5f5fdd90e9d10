use Rattle.std.proofs.Common.{◌-◌, ◌+◌, ◌≤◌, [], ◌∷◌, length}
use Rattle.nl_tree.specs.Held.{Holding, IsHolding}
use Rattle.nl_check.specs.Private.Naming.{IsNaming, awaited_count}
use Rattle.nl_check.proofs.trees.follow_names.Given as goal

abbrev pub invariant-loop-turn : goal.invariant-loop-turn
invariant-loop-turn g l = record {
  within : l.turn ≤ length l.queue.items;
  naming : (held : Holding) → g.T.TreeRead.holds l.tree held → IsHolding held
      → IsNaming held (2 ∷ []) 0 0 l.initial.awaited
      → IsNaming held l.queue.items l.turn 0 l.awaited;
}

abbrev pub decreases-loop-turn : goal.decreases-loop-turn
decreases-loop-turn g l = awaited_count l.awaited + (length l.queue.items - l.turn)
