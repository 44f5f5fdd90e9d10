-- What is printed where a line is refused, or is no command.
use Rattle.std.specs.Prelude.{ℕ, List, [], ◌∷◌, ◌++◌, codes, Option, None, Some}
use Rattle.std.specs.Fmt.{decimal}
use Rattle.nl_types.specs.Plain.Characters.{blank_space, line_feed}
use Rattle.nl_types.specs.Plain.Refusals.{refusal_number, name_of}
use Rattle.nl_types.specs.declared.error.VolError.{VolError}
use Rattle.nl_types.specs.declared.error.VolError.TheVariants.{BadImage, BadConfig}
use Rattle.nl_script.specs.Texts.{Text}
use Rattle.nl_script.specs.declared.texts.refusals.StartStep.{StartStep}
use Rattle.nl_script.specs.declared.texts.refusals.StartStep.TheVariants.{Configuration, Geometry, Image, Start}

-- the line of the script, and which of its numbers, where one alone was refused
abbrev pub place_text : (line : ℕ) → Option ℕ → Text
place_text line None = decimal line ++ codes ": "
place_text line (Some number) = decimal line ++ (codes ": " ++ (decimal number ++ codes ": "))

-- the condition of an image, or the line of a configuration
abbrev pub detail_of : VolError → Option ℕ
detail_of (BadImage condition) = Some condition
detail_of (BadConfig line) = Some line
detail_of _ = None

abbrev pub detail_text : Option ℕ → Text
detail_text None = []
detail_text (Some detail) = blank_space ∷ decimal detail

-- the number and the name of a refusal
abbrev pub kind_text : VolError → Text
kind_text error = codes "error " ++ (decimal (refusal_number error) ++ (blank_space ∷ name_of error))

abbrev pub refusal_text : (line : ℕ) → Option ℕ → VolError → Text
refusal_text line number error =
    place_text line number ++ (kind_text error ++ (detail_text (detail_of error) ++ (line_feed ∷ [])))

abbrev pub usage_text : (line : ℕ) → Text
usage_text line = decimal line ++ (codes ": usage" ++ (line_feed ∷ []))

abbrev pub step_text : StartStep → Text
step_text Configuration = codes "conf: "
step_text Image = codes "image: "
step_text Geometry = codes "geometry: "
step_text Start = codes "start: "

-- what comes before the first line was refused
abbrev pub start_text : StartStep → VolError → Text
start_text step error =
    step_text step ++ (kind_text error ++ (detail_text (detail_of error) ++ (line_feed ∷ [])))

-- the image of the volume isn't saved in the end
abbrev pub save_text : VolError → Text
save_text error = codes "save: " ++ (kind_text error ++ (detail_text (detail_of error) ++ (line_feed ∷ [])))

abbrev pub unread_text : (path : List ℕ) → Text
unread_text path = path ++ (codes ": cannot be read" ++ (line_feed ∷ []))

abbrev pub unwritten_text : (path : List ℕ) → Text
unwritten_text path = path ++ (codes ": cannot be written" ++ (line_feed ∷ []))

-- another program has the file
abbrev pub in_use_text : (path : List ℕ) → Text
in_use_text path = path ++ (codes ": is in use by another program" ++ (line_feed ∷ []))

-- no name is free for the new file that was to replace the file: these and those between them are taken
abbrev pub taken_text : (path first last : List ℕ) → Text
taken_text path first last =
    path ++ (codes ": cannot be written: beside it stand " ++ (first ++ (codes " to " ++ (last
    ++ (codes ": move away those that are worth keeping, and remove the others" ++ (line_feed ∷ []))))))

-- another program changed the file, and the image is in one beside it
abbrev pub changed_text : (path side : List ℕ) → Text
changed_text path side =
    path ++ (codes ": was changed by another program: this session is in " ++ (side ++ (line_feed ∷ [])))
