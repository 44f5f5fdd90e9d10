-- What is told of the conditions of checkpoints, each whether or not another one holds.
use Rattle.std.specs.Prelude.{◌≡◌, ◌↔◌, IsTrue, List, Option, None, Some}
use Rattle.nl_types.specs.Blocks.Roots.{Pages}
use Rattle.nl_vstore.specs.Periods.{Periods}
use Rattle.nl_check.specs.Conditions.{AreExact, AreShaped, AreTrees, Told}
use Rattle.nl_check.specs.declared.checks.Verdict.{Verdict}

-- some checkpoint has not its shape; or all have it, and it is told of the other conditions whether all meet them
pub data IsVerdict (pages : Pages) (periods : Periods) (kept : List Told) : Option Verdict → Type 0 where
  shapes_fail : (AreShaped pages kept → ⊥) → IsVerdict pages periods kept None
  shaped : (verdict : Verdict) → AreShaped pages kept → (IsTrue verdict.trees ↔ AreTrees pages kept)
      → (IsTrue verdict.periods ↔ AreExact pages periods kept) → IsVerdict pages periods kept (Some verdict)
