-- The numbers by which calls tell what they came to.
use Rattle.std.specs.Prelude.{ℕ, ◌+◌, ◌*◌, Result, Ok, Err}
use Rattle.nl_types.specs.declared.error.VolError.{VolError}
use Rattle.nl_types.specs.declared.error.VolError.TheVariants.{BadImage}
use Rattle.nl_types.specs.Plain.Refusals.{refusal_number}

abbrev pub done : ℕ
done = 0

-- there is no memory
abbrev pub memory : ℕ
memory = 18

-- the handle is closed
abbrev pub closed : ℕ
closed = 64

-- a flag or an index is none
abbrev pub wrong_argument : ℕ
wrong_argument = 65

-- the current tree may differ from the latest checkpoint
abbrev pub unsettled : ℕ
unsettled = 66

-- a refusal's number, with the condition of an image 256 times above it
abbrev pub error_number : VolError → ℕ
error_number (BadImage condition) = 24 + 256 * condition
error_number e = refusal_number e

-- what is told of an answer
abbrev pub status_of : {A : Type 0} → Result A VolError → ℕ
status_of (Ok answer) = done
status_of (Err e) = error_number e

-- the answer, or the number of the refusal
abbrev pub told_of : {A : Type 0} → Result A VolError → Result A ℕ
told_of (Ok answer) = Ok answer
told_of (Err e) = Err (error_number e)

-- the version: 65536 times the first number, 256 times the second, and the third
abbrev pub version : ℕ
version = 256
