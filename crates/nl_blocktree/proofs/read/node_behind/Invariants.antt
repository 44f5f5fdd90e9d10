use Rattle.std.proofs.Common.{◌≡◌, ◌+◌, ℕ}
use Rattle.nl_types.specs.Blocks.Roots.{chain_node}
use Rattle.nl_blocktree.proofs.read.node_behind.Given as goal

abbrev pub invariant-loop-step : goal.invariant-loop-step
invariant-loop-step g l =
    (top p : ℕ) → l.fn.node ≡ chain_node (g.V.VRead.pages l.store) top p
    → l.behind ≡ chain_node (g.V.VRead.pages l.store) top (p + l.step)
