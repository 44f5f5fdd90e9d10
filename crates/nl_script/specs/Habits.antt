-- What scripts know of a volume.
use Rattle.nl_types.specs.Plain.Worlds.{Reply}
use Rattle.nl_types.specs.declared.event.Event.{Event}
use Rattle.nl_commit.specs.Layout.{Layout}
use Rattle.nl_commit.specs.Rounds.{RoundHabits}
use Rattle.nl_script.specs.Rounds.{Steps}

-- what a volume of states S does and shows, whose rounds of cleaning are values of J
pub record Habits (S J : Type 0) : Type 1 where
  -- an event with its reply leads from one state to another
  pub does : S → Event → Reply → S → Type 0
  -- so does a step of a round, with its reply or none
  pub steps : Steps S J
  -- what its pen holds: all that is told of segments and checkpoints is told of that
  pub view : S → Layout
  -- how its rounds go on
  pub rounds : RoundHabits J
