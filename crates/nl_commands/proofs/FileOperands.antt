-- Operands of the commands that change files.
use Rattle.std.proofs.Common.{◌≡◌, ◌≢◌, ◌≤◌, ◌<◌, ◌∙◌, ℕ, List, [], ◌∷◌, Bor, Option, Some, Result, Ok, Err, ap, sym, refl, arith, map, length, get_or, min}
use Rattle.std.specs.Option.{ok_or}
use Rattle.clap.specs.Words.{Text}
use Rattle.nl_types.specs.Plain.Calls.{and_then, IsUnless}
use Rattle.nl_types.specs.declared.event.Change.TheVariants.{Write}
use Rattle.nl_commands.specs.declared.command.Command.TheVariants.{Change, Fill}
use Rattle.nl_commands.specs.declared.error.LineError.{LineError}
use Rattle.nl_commands.specs.declared.error.LineError.TheVariants.{Memory, Usage}
use Rattle.nl_commands.specs.FileCommands.{fill_of, most_filled, write_of}
use Rattle.nl_commands.specs.GivenOperands.{byte_in}
use Rattle.nl_commands.specs.NumberWords.{number_in}

-- the word at a place
abbrev pub word : List (Bor Text) → ℕ → Text
word words k = (get_or words k (record { ref_ptr = (0, 0); now = [] })).now

pub three : (words : List (Bor Text)) → 3 ≤ length words → length words < 4
    → map (λ w. w.now) words ≡ word words 0 ∷ word words 1 ∷ word words 2 ∷ []
three [] low high = absurd (omega arith)
three (a ∷ []) low high = absurd (omega arith)
three (a ∷ b ∷ []) low high = absurd (omega arith)
three (a ∷ b ∷ c ∷ []) low high = refl
three (a ∷ b ∷ c ∷ d ∷ rest) low high = absurd (omega arith)

pub four : (words : List (Bor Text)) → 4 ≤ length words → length words < 5
    → map (λ w. w.now) words ≡ word words 0 ∷ word words 1 ∷ word words 2 ∷ word words 3 ∷ []
four [] low high = absurd (omega arith)
four (a ∷ []) low high = absurd (omega arith)
four (a ∷ b ∷ []) low high = absurd (omega arith)
four (a ∷ b ∷ c ∷ []) low high = absurd (omega arith)
four (a ∷ b ∷ c ∷ d ∷ []) low high = refl
four (a ∷ b ∷ c ∷ d ∷ e ∷ rest) low high = absurd (omega arith)

-- what words mean, where they are those that are given
pub by_given : {A : Type 0} (next : List Text → Result A LineError) (all : Option (List Text))
    (given texts : List Text) → Some given ≡ all → given ≡ texts
    → next texts ≡ and_then (ok_or all Usage) next
by_given next all given texts is are =
    sym (ap next are) ∙ ap (λ (o : Option (List Text)). and_then (ok_or o Usage) next) is

-- ---- the exits of `?`

pub passed_on : {A : Type 0} (r expected : Result A LineError) (e : LineError)
    → (y : LineError) × (r ≡ Err y) × (y ≡ e) → Err e ≡ expected → r ≡ expected
passed_on r expected e is means = is.1 ∙ ap (λ x. Err x) is.2 ∙ means

-- the bytes of a word are these, unless memory ran out
abbrev Copies : Result Text LineError → Text → Type 0
Copies bytes text = IsUnless Memory bytes (Ok text)

-- they are refused for want of memory alone
pub memory_alone : {A : Type 0} (r expected : Result A LineError) (e : LineError) (text : Text)
    → (y : LineError) × (r ≡ Err y) × (y ≡ e) → Copies (Err e) text → r ≢ Err Memory → r ≡ expected
memory_alone r expected e text is alone other =
    let none : e ≢ Memory = λ same. other (is.1 ∙ ap (λ x. Err x) (is.2 ∙ same)) in
    let no : ◌≡◌ {A = Result Text LineError} (Err e) (Ok text) = alone (λ same. none (cc)) in
    cc

pub bytes_are : (bytes text : Text) → Copies (Ok bytes) text → bytes ≡ text
bytes_are bytes text is =
    let same : ◌≡◌ {A = Result Text LineError} (Ok bytes) (Ok text) = is (λ e. cc) in cc

module _ (path offset byte count : Text) where
  pub fill-offset : (e : LineError) → Err e ≡ number_in offset
      → Err e ≡ fill_of (path ∷ offset ∷ byte ∷ count ∷ [])
  fill-offset e is = rw (← is) refl

  pub fill-byte : (start : ℕ) (e : LineError) → Ok start ≡ number_in offset → Err e ≡ byte_in byte
      → Err e ≡ fill_of (path ∷ offset ∷ byte ∷ count ∷ [])
  fill-byte start e at is = rw (← at, ← is) refl

  pub fill-count : (start value : ℕ) (e : LineError) → Ok start ≡ number_in offset → Ok value ≡ byte_in byte
      → Err e ≡ number_in count → Err e ≡ fill_of (path ∷ offset ∷ byte ∷ count ∷ [])
  fill-count start value e at filled is = rw (← at, ← filled, ← is) refl

  pub fill-done : (to : Text) (start value n m : ℕ) → Ok start ≡ number_in offset → Ok value ≡ byte_in byte
      → Ok n ≡ number_in count → m ≡ min n most_filled → to ≡ path
      → Ok (Fill to start value m) ≡ fill_of (path ∷ offset ∷ byte ∷ count ∷ [])
  fill-done to start value n m at filled counted most is = rw (← at, ← filled, ← counted, most, is) refl

module _ (path offset text : Text) where
  pub write-offset : (e : LineError) → Err e ≡ number_in offset
      → Err e ≡ write_of (path ∷ offset ∷ text ∷ [])
  write-offset e is = rw (← is) refl

  pub write-done : (to bytes : Text) (start : ℕ) → Ok start ≡ number_in offset → to ≡ path → bytes ≡ text
      → Ok (Change (Write to start bytes)) ≡ write_of (path ∷ offset ∷ text ∷ [])
  write-done to bytes start at is same = rw (← at, is, same) refl
