-- What lines do on one volume, they do on another that simulates it.
use Rattle.std.specs.Prelude.{◌≡◌, ℕ, List, Option}
use Rattle.nl_types.specs.Plain.Worlds.{Reply}
use Rattle.nl_types.specs.declared.event.Event.{Event}
use Rattle.nl_protect.specs.declared.config.Config.{Config}
use Rattle.nl_commit.specs.Layout.{Layout}
use Rattle.nl_script.specs.Habits.{Habits}
use Rattle.nl_script.specs.Lines.{LineEnd}
use Rattle.nl_script.specs.Scripts.{AreLinesDone}

-- The other volume simulates the one: whatever this does, that does from each state that is beside this one's,
-- and its next state is beside the next one. Both show the same, and their rounds are the same values.
pub record IsSimulation {S T J : Type 0} (one : Habits S J) (other : Habits T J)
    (IsBeside : S → T → Type 0) : Type 0 where
  pub does : (old new : S) (t : T) (event : Event) (reply : Reply) → IsBeside old t
      → one.does old event reply new → (u : T) × IsBeside new u × other.does t event reply u
  pub steps : (old new : S) (t : T) (job next : J) (reply : Option Reply) → IsBeside old t
      → one.steps old job reply new next → (u : T) × IsBeside new u × other.steps t job reply u next
  pub views : (s : S) (t : T) → IsBeside s t → one.view s ≡ other.view t
  pub plans : (l : Layout) (config : Config) (moment : ℕ) (job : J) → one.rounds.plans l config moment job
      → other.rounds.plans l config moment job

-- so it simulates lists of lines
abbrev pub LinesAreSimulated : {S T J : Type 0} → Habits S J → Habits T J → (S → T → Type 0) → Type 0
LinesAreSimulated {S = S} {T = T} one other IsBeside =
    (config : Config) (count moment : ℕ) (lines : List (List ℕ)) (old new : S) (ends : List LineEnd) (t : T)
    → IsBeside old t → AreLinesDone one config count moment lines old new ends
    → (u : T) × IsBeside new u × AreLinesDone other config count moment lines t u ends
