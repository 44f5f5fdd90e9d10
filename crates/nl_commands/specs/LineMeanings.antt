-- What a line means.
use Rattle.std.specs.Prelude.{◌≡◌, ◌≢◌, ◌⊎◌, ℕ, List, [], ◌∷◌, slice_index, Option, None, Some, Result, Ok, Err, IsUtf8}
use Rattle.nl_types.specs.Plain.Calls.{and_then}
use Rattle.nl_types.specs.Plain.Characters.{hash_mark}
use Rattle.clap.specs.Words.{Text}
use Rattle.nl_commands.specs.declared.command.Command.{Command}
use Rattle.nl_commands.specs.declared.error.LineError.{LineError}
use Rattle.nl_commands.specs.declared.error.LineError.TheVariants.{Usage, Memory}
use Rattle.nl_commands.specs.CommandNames.{command_meant}
use Rattle.nl_commands.specs.Splitting.{AreWords, HasOpenWord}

-- a line without a word asks for nothing
abbrev pub words_meant : List Text → Result (Option Command) LineError
words_meant [] = Ok None
words_meant (word ∷ words) = and_then (command_meant (word ∷ words)) (λ command. Ok (Some command))

abbrev pub LineRead : Type 0
LineRead = Result (Option Command) LineError

-- the text has words, and the result is what they mean
abbrev pub MeansWords : List ℕ → LineRead → Type 0
MeansWords text result = (words : List Text) × AreWords text words × (result ≡ words_meant words)

-- what a text that is no comment means
abbrev pub MeansText : List ℕ → LineRead → Type 0
MeansText text result = MeansWords text result ⊎ (HasOpenWord text × (result ≡ Err Usage))

-- what a line means: one that is no text is no command, and a comment asks for nothing
pub record MeansLine (line : List ℕ) (result : LineRead) : Type 0 where
  pub no_text : ¬ (IsUtf8 line) → result ≡ Err Usage
  pub comment : IsUtf8 line → slice_index line 0 ≡ hash_mark → result ≡ Ok None
  pub text : IsUtf8 line → slice_index line 0 ≢ hash_mark → result ≢ Err Memory → MeansText line result
