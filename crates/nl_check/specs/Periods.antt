-- Numbers that were met, beside the periods of all numbers.
use Rattle.std.specs.Prelude.{◌≡◌, ℕ, Bool, true, false, List, Option, None, Some}
use Rattle.nl_types.specs.declared.period.Period.{Period}
use Rattle.nl_types.specs.Blocks.Roots.{Pages, Root}
use Rattle.nl_vstore.specs.Periods.{Periods}
use Rattle.nl_check.specs.Conditions.{MeetsItsNumbers, has}
use Rattle.nl_blocktree.specs.Walked.{is_met}
use Rattle.nl_check.specs.Shapes.{At, met}

-- whether a number in use has the checkpoint in its period
abbrev pub has_in : ℕ → Option Period → Bool
has_in c None = false
has_in c (Some period) = has c period

-- a number was met exactly where its period has the checkpoint
abbrev pub AreOfPeriods : Periods → ℕ → List Bool → Type 0
AreOfPeriods periods c numbers = (v : ℕ) → is_met numbers v ≡ has_in c (periods v)

-- the numbers that were met are those at the places of a checkpoint
pub record AreMetIn (pages : Pages) (root : Root) (numbers : List Bool) : Type 0 where
  pub all : (at : At) (v : ℕ) → met pages root at ≡ Some v → is_met numbers v ≡ true
  pub only : (v : ℕ) → is_met numbers v ≡ true → (at : At) × (met pages root at ≡ Some v)

-- they are of their periods exactly where the checkpoint meets its numbers
pub record TellPeriods : Type 0 where
  pub yes : (pages : Pages) (periods : Periods) (c : ℕ) (root : Root) (numbers : List Bool)
      → AreMetIn pages root numbers
      → AreOfPeriods periods c numbers → MeetsItsNumbers pages periods c root
  pub no : (pages : Pages) (periods : Periods) (c : ℕ) (root : Root) (numbers : List Bool)
      → AreMetIn pages root numbers
      → MeetsItsNumbers pages periods c root → AreOfPeriods periods c numbers
