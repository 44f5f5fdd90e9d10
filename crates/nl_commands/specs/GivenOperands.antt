-- What a command is given, by the names of its grammar.
use Rattle.std.specs.Prelude.{ℕ, nat_lt, if◌then◌else◌, List, [], ◌∷◌, Option, None, Some, Result, Ok, Err}
use Rattle.std.specs.Option.{ok_or}
use Rattle.clap.specs.Words.{Row, Text, all_of, first_of}
use Rattle.nl_types.specs.Plain.Calls.{and_then}
use Rattle.nl_commands.specs.declared.command.CheckpointRange.{CheckpointRange}
use Rattle.nl_commands.specs.declared.error.LineError.{LineError}
use Rattle.nl_commands.specs.declared.error.LineError.TheVariants.{Usage}
use Rattle.nl_commands.specs.NumberWords.{number_in}
use Rattle.nl_commands.specs.RangeWords.{range_in}

abbrev pub word_at : Text → List Row → Result Text LineError
word_at id rows = ok_or (first_of id rows) Usage

abbrev pub number_at : Text → List Row → Result ℕ LineError
number_at id rows = and_then (word_at id rows) number_in

-- a number that may be left out
abbrev pub if_given : Option Text → Result (Option ℕ) LineError
if_given None = Ok None
if_given (Some word) = and_then (number_in word) (λ n. Ok (Some n))

abbrev pub optional_number_at : Text → List Row → Result (Option ℕ) LineError
optional_number_at id rows = if_given (first_of id rows)

abbrev pub byte_of : ℕ → Result ℕ LineError
byte_of n = if nat_lt n 256 then Ok n else Err Usage

abbrev pub byte_in : Text → Result ℕ LineError
byte_in word = and_then (number_in word) byte_of

-- ---- words that are all of one kind

-- each word read, in their order: the first that is refused decides
abbrev pub each_in : {A : Type 0} → (Text → Result A LineError) → List Text → Result (List A) LineError
each_in read [] = Ok []
each_in read (word ∷ words) =
    and_then (read word) (λ item. and_then (each_in read words) (λ items. Ok (item ∷ items)))

abbrev pub numbers_in : List Text → Result (List ℕ) LineError
numbers_in words = each_in number_in words

abbrev pub ranges_in : List Text → Result (List CheckpointRange) LineError
ranges_in words = each_in range_in words

abbrev pub words_at : Text → List Row → Result (List Text) LineError
words_at id rows = ok_or (all_of id rows) Usage

abbrev pub numbers_at : Text → List Row → Result (List ℕ) LineError
numbers_at id rows = and_then (words_at id rows) numbers_in

abbrev pub ranges_at : Text → List Row → Result (List CheckpointRange) LineError
ranges_at id rows = and_then (words_at id rows) ranges_in
