use Rattle.std.proofs.Common.{◌≡◌, ◌-◌, ◌<◌, ◌≤◌, ℕ, None}
use Rattle.nl_types.specs.Blocks.Roots.{slot}
use Rattle.nl_blocktree.proofs.walking.last_named.Given as goal

abbrev pub invariant-loop-behind : goal.invariant-loop-behind
invariant-loop-behind l = (s : ℕ) → 127 - l.behind ≤ s → s < 127 → slot s l.page ≡ None
