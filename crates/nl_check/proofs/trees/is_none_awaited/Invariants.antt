use Rattle.std.proofs.Common.{◌≡◌, ◌<◌, ℕ, None}
use Rattle.nl_check.specs.Private.SoundInodes.{kind_in}
use Rattle.nl_check.proofs.trees.is_none_awaited.Given as goal

abbrev pub invariant-loop-number : goal.invariant-loop-number
invariant-loop-number l = (i : ℕ) → i < l.number → kind_in l.awaited i ≡ None
