-- Rounds of cleaning, as those know them that run one.
use Rattle.std.specs.Prelude.{◌≡◌, ◌<◌, ℕ, Bool, true, false, Option, Some, Err}
use Rattle.nl_types.specs.declared.error.VolError.{VolError}
use Rattle.nl_types.specs.declared.error.VolError.TheVariants.{Fault, Memory, NoSpace, NumbersSpent}
use Rattle.nl_types.specs.declared.event.Event.{Event}
use Rattle.nl_types.specs.declared.event.Event.TheVariants.{Unmount}
use Rattle.nl_types.specs.Plain.Worlds.{Reply}
use Rattle.nl_protect.specs.declared.config.Config.{Config}
use Rattle.nl_commit.specs.Layout.{Does, IsPen, Layout}
use Rattle.nl_commit.specs.Notes.{shared}

-- how a round goes on, which is a value of J
pub record RoundHabits (J : Type 0) : Type 1 where
  -- what a round is to do on a pen, by a configuration and at a moment
  pub plans : Layout → Config → (moment : ℕ) → J → Type 0
  -- the event that comes next, or none where nothing is left
  pub next : J → Layout → Option Event
  -- what the reply to that event makes of the round
  pub noted : J → Reply → J
  -- how many steps are left at most
  pub left : J → Layout → ℕ

-- Rounds end beside readers too, where memory may be refused to any event, and lost mounts are given back
-- between two steps.
pub record RoundsEnd {J : Type 0} (rounds : RoundHabits J) : Type 0 where
  -- each step leaves fewer
  pub steps : (old new : Layout) (round : J) (event : Event) (reply : Reply)
      → IsPen old → rounds.next round old ≡ Some event → Does shared old event reply new
      → rounds.left (rounds.noted round reply) new < rounds.left round old
  -- and so does one whose event is refused for want of memory before it is begun
  pub refusals : (pen : Layout) (round : J) (event : Event) → rounds.next round pen ≡ Some event
      → rounds.left (rounds.noted round (Err Memory)) pen < rounds.left round pen
  -- a mount that is given back, or whose give-back is refused, leaves as many
  pub unmounts : (old new : Layout) (round : J) (mount : ℕ) (reply : Reply)
      → IsPen old → Does shared old (Unmount mount) reply new
      → rounds.left round new ≡ rounds.left round old

-- these refusals end a round, since the next move would meet them too
abbrev pub ends_round : VolError → Bool
ends_round NumbersSpent = true
ends_round NoSpace = true
ends_round Fault = true
ends_round Memory = true
ends_round _ = false
