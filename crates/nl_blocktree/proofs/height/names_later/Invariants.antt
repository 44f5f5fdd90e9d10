use Rattle.std.proofs.Common.{◌≡◌, ◌≤◌, ◌<◌, ℕ, List, None}
use Rattle.std.specs.Prelude.{option_copied}
use Rattle.std.specs.Option.{option_and_then}
use Rattle.nl_types.specs.Blocks.Roots.{slot}
use Rattle.nl_blocktree.proofs.height.names_later.Given as goal

abbrev pub invariant-loop-at : goal.invariant-loop-at
invariant-loop-at l =
    (t : ℕ) → 1 ≤ t → t < l.at
    → option_and_then (λ (bytes : List ℕ). slot t bytes) (option_copied l.page) ≡ None
