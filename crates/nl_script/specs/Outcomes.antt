-- What is told of events and their replies, in the order in which it is told.
use Rattle.std.specs.Prelude.{ℕ, ◌&&◌, not, Bool, true, false, List, [], ◌∷◌, ◌++◌, map, filter, Option, None, Some, Ok, Err}
use Rattle.nl_types.specs.Plain.Worlds.{Reply}
use Rattle.nl_types.specs.declared.error.VolError.{VolError}
use Rattle.nl_types.specs.declared.error.VolError.TheVariants.{NoCheckpoint, IsSnapshot}
use Rattle.nl_types.specs.declared.event.Event.{Event}
use Rattle.nl_types.specs.declared.event.Event.TheVariants.{ChangeMode, Remove, RemoveRange}
use Rattle.nl_types.specs.declared.reply.Answer.{Answer}
use Rattle.nl_types.specs.declared.reply.Answer.TheVariants.{Removed}
use Rattle.nl_types.specs.declared.row.Stays.{Stays}
use Rattle.nl_commands.specs.declared.command.Command.{Command}
use Rattle.nl_commands.specs.declared.command.Command.TheVariants.{Rmcp}

-- an answer, or a refusal, with the checkpoint's number where a line may have several
pub data LineOutcome : Type 0 where
  Answered : Answer → LineOutcome
  Refused : Option ℕ → VolError → LineOutcome

abbrev pub outcome : Option ℕ → Reply → LineOutcome
outcome number (Ok answer) = Answered answer
outcome number (Err error) = Refused number error

abbrev pub stays_outcome : Stays → LineOutcome
stays_outcome stays = Refused (Some stays.number) stays.reason

-- a range is refused whole, or each checkpoint that stays is told of
abbrev pub range_outcomes : Reply → List LineOutcome
range_outcomes (Ok (Removed range)) = map stays_outcome range.stayed
range_outcomes (Ok answer) = Answered answer ∷ []
range_outcomes (Err error) = Refused None error ∷ []

abbrev pub event_outcomes : Event → Reply → List LineOutcome
event_outcomes (ChangeMode number mode) reply = outcome (Some number) reply ∷ []
event_outcomes (Remove number) reply = outcome (Some number) reply ∷ []
event_outcomes (RemoveRange first last) reply = range_outcomes reply
event_outcomes _ reply = outcome None reply ∷ []

abbrev pub all_outcomes : List Event → List Reply → List LineOutcome
all_outcomes (e ∷ events) (r ∷ replies) = event_outcomes e r ++ all_outcomes events replies
all_outcomes _ _ = []

-- what a quiet removal leaves out: a checkpoint that isn't kept, and a snapshot
abbrev pub may_be_left_out : VolError → Bool
may_be_left_out NoCheckpoint = true
may_be_left_out IsSnapshot = true
may_be_left_out _ = false

abbrev pub is_told : (quiet : Bool) → LineOutcome → Bool
is_told quiet (Answered answer) = true
is_told quiet (Refused number error) = not (quiet && may_be_left_out error)

abbrev pub is_quiet : Command → Bool
is_quiet (Rmcp quiet ranges) = quiet
is_quiet _ = false

abbrev pub outcomes_of : (quiet : Bool) → List Event → List Reply → List LineOutcome
outcomes_of quiet events replies = filter (is_told quiet) (all_outcomes events replies)
