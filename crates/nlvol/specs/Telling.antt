-- What is told on the stream of errors.
use Rattle.std.specs.Prelude.{◌≡◌, Bool, true, false, [], Option, None, Some, string_bytes}
use Rattle.std.specs.Io.KnownBytes.{Appends}
use Rattle.nl_types.specs.declared.error.VolError.{VolError}
use Rattle.nl_types.specs.declared.error.VolError.TheVariants as error
use Rattle.nl_commands.specs.declared.arguments.Arguments.{Arguments}
use Rattle.nl_commands.specs.declared.asked.ArgumentsFault.{ArgumentsFault}
use Rattle.nl_commands.specs.declared.asked.ArgumentsFault.TheVariants as words
use Rattle.nl_script.specs.RefusalTexts.{in_use_text, start_text, unread_text}
use Rattle.nl_script.specs.StreamTexts.{notice_text, stream_text}
use Rattle.nl_script.specs.Texts.{Text}
use Rattle.nl_script.specs.declared.texts.refusals.StartStep.{StartStep}
use Rattle.nl_script.specs.declared.texts.refusals.StartStep.TheVariants as step
use Rattle.nl_script.specs.declared.texts.streams.StandardStream.{StandardStream}
use Rattle.nl_saving.specs.declared.files.FileFault.{FileFault}
use Rattle.nl_saving.specs.declared.files.FileFault.TheVariants as file
use Rattle.nlvol.specs.declared.starting.StartFault.{StartFault}
use Rattle.nlvol.specs.declared.starting.StartFault.TheVariants as start

-- the stream of errors before and after
pub record Errors (E : Type 0) : Type 0 where
  -- what it holds, where that is known
  pub contents : E → Option Text
  pub before : E
  pub after : E

abbrev pub errors_of : {E : Type 0} → (E → Option Text) → (before after : E) → Errors E
errors_of contents before after = record { contents = contents; before = before; after = after }

-- the text is told whole, and nothing else, unless it is said that the stream failed
abbrev pub Tells : {E : Type 0} → Text → Errors E → (told : Bool) → Type 0
Tells text e told = told ≡ true → Appends (e.contents e.before) (e.contents e.after) text

-- the text is told too, behind what was told
abbrev pub TellsMore : {E : Type 0} → (before : Bool) → Text → Errors E → (told : Bool) → Type 0
TellsMore before text e told =
    told ≡ true → (before ≡ true) × Appends (e.contents e.before) (e.contents e.after) text

-- ---- texts

-- a path that was given
abbrev pub path_given : Option Text → Text
path_given None = []
path_given (Some path) = path

-- what is wrong with the words
abbrev pub words_text : ArgumentsFault → Text
words_text (words.Misread text) = string_bytes text
words_text words.Memory = start_text step.Start error.Memory

-- the step that a configuration is refused by
abbrev pub configuration_step : VolError → StartStep
configuration_step error.Memory = step.Start
configuration_step _ = step.Configuration

-- why there is no configuration
abbrev pub configuration_text : (path : Option Text) → FileFault → Text
configuration_text path file.Unread = unread_text (path_given path)
configuration_text path (file.Refused e) = start_text (configuration_step e) e

-- why there is no volume, or no place to save it
abbrev pub fault_text : Arguments → StartFault → Text
fault_text arguments start.InUse = in_use_text (path_given arguments.save)
fault_text arguments start.Unread = unread_text (path_given arguments.open)
fault_text arguments (start.Refused s e) = start_text s e

-- to a person who types the script: when its file is saved
abbrev pub notice : (typed : Bool) → (save : Option Text) → Text
notice false save = []
notice true None = []
notice true (Some path) = notice_text path

-- before the first line nothing is told but when the volume is saved, to a person
abbrev pub IsNoticed : {E : Type 0} → (typed : Bool) → (save : Option Text) → (errors told : E) → Type 0
IsNoticed false save errors told = told ≡ errors
IsNoticed true None errors told = told ≡ errors
IsNoticed true (Some path) errors told = Unit {0}

-- which stream failed, if one did
abbrev pub failure_text : Option StandardStream → Text
failure_text None = []
failure_text (Some stream) = stream_text stream
