use Rattle.std.proofs.Common.{◌≡◌, ◌≢◌, ◌⊎◌, ◌∙◌, ap, refl, sym, cond, Bool, true, false, List, [], ◌∷◌, Result, Ok, Err, inl, inr}
use Rattle.clap.specs.Words.{App, IsAmong, Kinds, Row, Text, fault_of, matches_of}
use Rattle.clap.specs.declared.error.kind.ErrorKind.{ErrorKind}
use Rattle.clap.specs.declared.error.kind.ErrorKind.TheVariants.{OutOfMemory}
use Rattle.nl_commands.specs.declared.error.LineError.{LineError}
use Rattle.nl_commands.specs.declared.error.LineError.TheVariants.{Usage, Memory}
use Rattle.nl_commands.specs.Grammars.{has_hyphen, parsed, unless_fault}
use Rattle.nl_commands.specs.Kinds.{line_error}

pub parsed-ok : (app : App) (words : List Text) → has_hyphen words ≡ false → fault_of app words ≡ []
    → parsed app words ≡ Ok (matches_of app words)
parsed-ok app words none fine =
    ap (λ b. cond b (Err Usage) (unless_fault (fault_of app words) (Ok (matches_of app words)))) none
    ∙ ap (λ (kinds : Kinds). unless_fault kinds (Ok (matches_of app words))) fine

some_fault : (rows : List Row) (k : ErrorKind) (kinds : Kinds) → IsAmong k kinds
    → unless_fault kinds (Ok rows) ≡ Err Usage
some_fault rows k [] is = absurd is
some_fault rows k (x ∷ kinds) is = refl

either_way : (b : Bool) (r : Result (List Row) LineError) → r ≡ Err Usage → cond b (Err Usage) r ≡ Err Usage
either_way true r is = refl
either_way false r is = is

pub parsed-usage : (app : App) (words : List Text) (k : ErrorKind) → IsAmong k (fault_of app words)
    → parsed app words ≡ Err Usage
parsed-usage app words k is =
    either_way (has_hyphen words) _ (some_fault (matches_of app words) k (fault_of app words) is)

line_error-cases : (k : ErrorKind) → (line_error k ≡ Memory) ⊎ (line_error k ≡ Usage)
line_error-cases OutOfMemory = inl refl
line_error-cases _ = inr refl

-- an error of the library, as the line's error
pub error-is : (app : App) (words : List Text) (k : ErrorKind)
    → (k ≡ OutOfMemory) ⊎ IsAmong k (fault_of app words) → line_error k ≢ Memory
    → Err (line_error k) ≡ parsed app words
error-is app words k (inl memory) other = absurd (other (ap line_error memory))
error-is app words k (inr among) other = elim (line_error-cases k) [
  | inl is ↦ absurd (other is)
  | inr is ↦ ap (λ e. Err e) is ∙ sym (parsed-usage app words k among)
]
