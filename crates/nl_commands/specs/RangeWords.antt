-- Ranges of checkpoints in words.
use Rattle.std.specs.Prelude.{ℕ, ◌==◌, if◌then◌else◌, [], ◌∷◌, Option, None, Some, Result, Ok, Err}
use Rattle.std.specs.Option.{option_map}
use Rattle.nl_types.specs.Plain.Calls.{and_then}
use Rattle.nl_types.specs.Plain.Characters.{dot}
use Rattle.clap.specs.Words.{Text}
use Rattle.nl_commands.specs.declared.command.CheckpointRange.{CheckpointRange}
use Rattle.nl_commands.specs.declared.command.CheckpointRange.TheVariants.{One, Between, Since}
use Rattle.nl_commands.specs.declared.error.LineError.{LineError}
use Rattle.nl_commands.specs.declared.error.LineError.TheVariants.{Usage}
use Rattle.nl_commands.specs.NumberWords.{number_in}

abbrev pub with_byte : ℕ → Text × Text → Text × Text
with_byte b parts = (b ∷ parts.0, parts.1)

-- what stands before the first dot and what stands behind it, where there is one
abbrev pub around_dot : Text → Option (Text × Text)
around_dot [] = None
around_dot (b ∷ bs) = if b == dot then Some ([], bs) else option_map (with_byte b) (around_dot bs)

-- what stands behind a dot that begins the text
abbrev pub behind_dot : Text → Option Text
behind_dot [] = None
behind_dot (b ∷ bs) = if b == dot then Some bs else None

-- a range without a first number begins at 1
abbrev pub first_in : Text → Result ℕ LineError
first_in [] = Ok 1
first_in (b ∷ bs) = number_in (b ∷ bs)

-- one without a last number goes to the latest checkpoint, and has to have a first
abbrev pub range_between : Text → Text → Result CheckpointRange LineError
range_between first [] = and_then (number_in first) (λ a. Ok (Since a))
range_between first (b ∷ bs) =
    and_then (first_in first) (λ a. and_then (number_in (b ∷ bs)) (λ z. Ok (Between a z)))

-- what the word is by the text behind its first dot, which a second one has to begin
abbrev pub by_dots : Text → Option Text → Result CheckpointRange LineError
by_dots first None = Err Usage
by_dots first (Some last) = range_between first last

abbrev pub by_dot : Text → Option (Text × Text) → Result CheckpointRange LineError
by_dot word None = and_then (number_in word) (λ n. Ok (One n))
by_dot word (Some parts) = by_dots parts.0 (behind_dot parts.1)

-- N, A..B, ..B or A..
abbrev pub range_in : Text → Result CheckpointRange LineError
range_in word = by_dot word (around_dot word)
