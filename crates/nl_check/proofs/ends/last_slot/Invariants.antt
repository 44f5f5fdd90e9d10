use Rattle.std.proofs.Common.{◌≡◌, ◌+◌, ◌<◌, ◌≤◌, ℕ, None}
use Rattle.nl_types.specs.Blocks.Roots.{slot}
use Rattle.nl_check.proofs.ends.last_slot.Given as goal

abbrev pub invariant-loop-behind : goal.invariant-loop-behind
invariant-loop-behind l = (t : ℕ) → 128 ≤ t + l.behind → t < 128 → slot t l.page ≡ None
