-- What a line makes of the exit status.
use Rattle.std.specs.Prelude.{Bool, true, false, ◌||◌, List, [], ◌∷◌}
use Rattle.nl_types.specs.Plain.Worlds.{Reply}
use Rattle.nl_types.specs.declared.event.Event.{Event}
use Rattle.nl_script.specs.declared.status.Status.{Status}
use Rattle.nl_script.specs.declared.status.Status.TheVariants as status
use Rattle.nl_script.specs.Outcomes.{LineOutcome, Answered, Refused, outcomes_of}

abbrev pub is_refusal : LineOutcome → Bool
is_refusal (Answered answer) = false
is_refusal (Refused number error) = true

abbrev pub has_refusal : List LineOutcome → Bool
has_refusal [] = false
has_refusal (outcome ∷ outcomes) = is_refusal outcome || has_refusal outcomes

-- whether a refusal is told of
abbrev pub tells_refusal : (quiet : Bool) → List Event → List Reply → Bool
tells_refusal quiet events replies = has_refusal (outcomes_of quiet events replies)

abbrev pub status_if_refused : Bool → Status
status_if_refused true = status.Refused
status_if_refused false = status.Fine

-- what the events of a line make of the status
abbrev pub status_of : (quiet : Bool) → List Event → List Reply → Status
status_of quiet events replies = status_if_refused (tells_refusal quiet events replies)
