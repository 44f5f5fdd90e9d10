-- What is said of a standard stream that fails, and to a terminal.
use Rattle.std.specs.Prelude.{ℕ, List, [], ◌∷◌, ◌++◌, codes}
use Rattle.nl_types.specs.Plain.Characters.{line_feed}
use Rattle.nl_script.specs.Texts.{Text}
use Rattle.nl_script.specs.declared.texts.streams.StandardStream.{StandardStream}
use Rattle.nl_script.specs.declared.texts.streams.StandardStream.TheVariants.{Input, Output}

abbrev pub stream_text : StandardStream → Text
stream_text Input = codes "standard input: cannot be read" ++ (line_feed ∷ [])
stream_text Output = codes "standard output: cannot be written" ++ (line_feed ∷ [])

-- the file is saved once the input of a terminal ends
abbrev pub notice_text : (path : List ℕ) → Text
notice_text path = path ++ (codes ": is saved at the end of input (Ctrl-D)" ++ (line_feed ∷ []))
