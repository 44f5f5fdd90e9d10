-- At which checkpoints periods turn: where they begin, and where they end.
use Rattle.std.specs.Prelude.{◌≡◌, ◌⊎◌, ℕ, ◌<◌, ◌≤◌, Bool, List, [], ◌∷◌, map, Option, None, Some}
use Rattle.std.specs.List.{Contains}
use Rattle.std.specs.List.Sorted.{IsNonDecreasingBy}
use Rattle.std.specs.Option.{option_to_list}
use Rattle.nl_types.specs.declared.period.Period.{Period}
use Rattle.nl_vstore.specs.Periods.{Periods}
use Rattle.nl_blocktree.specs.Walked.{is_met}
use Rattle.nl_check.specs.Periods.{AreOfPeriods, has_in}
use Rattle.nl_check.specs.declared.turns.Turn.{Turn}

abbrev pub turn_at : ℕ → ℕ → Turn
turn_at v c = record { checkpoint = c; number = v }

abbrev pub checkpoint_of : Turn → ℕ
checkpoint_of turn = turn.checkpoint

-- where the period of a number begins, and where it ends
abbrev pub turns_of : ℕ → Option Period → List Turn
turns_of v None = []
turns_of v (Some period) = turn_at v period.start ∷ map (turn_at v) (option_to_list period.end)

-- a list has the turns of the numbers below one
abbrev pub HasTurnsBelow : Periods → ℕ → List Turn → Type 0
HasTurnsBelow periods n turns =
    (v : ℕ) (turn : Turn) → v < n → Contains (turns_of v (periods v)) turn → Contains turns turn

-- a list has the turns of all numbers, ascending by their checkpoints
pub record AreTurns (periods : Periods) (turns : List Turn) : Type 0 where
  pub all : (v : ℕ) (turn : Turn) → Contains (turns_of v (periods v)) turn → Contains turns turn
  pub rising : IsNonDecreasingBy checkpoint_of turns

-- a period neither begins nor ends behind one checkpoint and not behind another, later one
pub record StaysBetween (a b : ℕ) (period : Period) : Type 0 where
  pub start : (period.start ≤ a) ⊎ (b < period.start)
  pub end : (e : ℕ) → period.end ≡ Some e → (e ≤ a) ⊎ (b < e)

-- a number is met exactly where its period has the checkpoint
abbrev pub IsOfPeriod : Periods → ℕ → List Bool → ℕ → Type 0
IsOfPeriod periods c numbers v = is_met numbers v ≡ has_in c (periods v)

-- so is the number of a turn
abbrev pub IsTurnOfPeriod : Periods → ℕ → List Bool → Turn → Type 0
IsTurnOfPeriod periods c numbers turn = IsOfPeriod periods c numbers turn.number

-- so are all numbers whose periods turn between two checkpoints
abbrev pub AreTurnedOfPeriods : Periods → (a b : ℕ) → List Bool → Type 0
AreTurnedOfPeriods periods a b numbers =
    (v : ℕ) (period : Period) → periods v ≡ Some period
    → IsOfPeriod periods b numbers v ⊎ StaysBetween a b period

-- each number that is met now and wasn't, or was and isn't, is in a list
abbrev pub TellsChanges : List Bool → List Bool → List ℕ → Type 0
TellsChanges start now changed = (v : ℕ) → (is_met start v ≡ is_met now v) ⊎ Contains changed v

-- a checkpoint met just the numbers whose periods have it, and what changed since is in a list
abbrev pub WereOfPeriods : Periods → ℕ → List Bool → List ℕ → Type 0
WereOfPeriods periods c now changed =
    (start : List Bool) × AreOfPeriods periods c start × TellsChanges start now changed
