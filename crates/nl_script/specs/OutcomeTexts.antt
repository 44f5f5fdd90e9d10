-- What is printed of outcomes.
use Rattle.std.specs.Prelude.{ℕ, Bool, List, [], ◌++◌, flat_map, filter}
use Rattle.nl_types.specs.Plain.Worlds.{Reply}
use Rattle.nl_types.specs.declared.event.Event.{Event}
use Rattle.nl_types.specs.declared.reply.Answer.{Answer}
use Rattle.nl_types.specs.declared.reply.Answer.TheVariants as answer
use Rattle.nl_script.specs.AnswerTexts.{number_text, content_text, stat_text, name_texts}
use Rattle.nl_script.specs.CheckpointLines.{cp_header, cp_texts}
use Rattle.nl_script.specs.RefusalTexts.{refusal_text}
use Rattle.nl_script.specs.Texts.{Text}
use Rattle.nl_script.specs.Outcomes.{LineOutcome, Answered, Refused, is_told, outcomes_of}

-- that a change is done prints nothing
abbrev pub answer_text : Answer → Text
answer_text answer.Done = []
answer_text (answer.Written count) = []
answer_text (answer.Removed range) = []
answer_text (answer.Expired gone) = []
answer_text (answer.Moved moved left) = []
answer_text (answer.Freed count) = []
answer_text (answer.Bytes bytes) = content_text bytes
answer_text (answer.Names names) = name_texts names
answer_text (answer.Stat stat) = stat_text stat
answer_text (answer.Checkpoint number) = number_text number
answer_text (answer.Mount mount) = number_text mount
answer_text (answer.Rows rows) = cp_header ++ cp_texts rows

abbrev pub outcome_text : (line : ℕ) → LineOutcome → Text
outcome_text line (Answered answer) = answer_text answer
outcome_text line (Refused number error) = refusal_text line number error

abbrev pub told_text : (line : ℕ) (quiet : Bool) → List LineOutcome → Text
told_text line quiet outcomes = flat_map (outcome_text line) (filter (is_told quiet) outcomes)

-- what is printed of the events of a line
abbrev pub text_of : (line : ℕ) (quiet : Bool) → List Event → List Reply → Text
text_of line quiet events replies = flat_map (outcome_text line) (outcomes_of quiet events replies)
