-- What is read by the grammars of the commands.
use Rattle.std.proofs.Common.{◌≡◌, ◌∙◌, ◌⊎◌, ap, inl, inr, refl, subst, Bool, true, false, List, [], ◌∷◌, Some, Result, Ok, Err}
use Rattle.std.specs.Prelude.{◌&&◌}
use Rattle.std.specs.Str.{bytes_eq}
use Rattle.clap.proofs.OnLiterals.{clap_on_literals}
use Rattle.clap.proofs.WalkLemmas.{both}
use Rattle.clap.specs.Words.{Row, Text}
use Rattle.nl_types.specs.Plain.Calls.{and_then, IsUnless}
use Rattle.nl_commands.specs.declared.error.LineError.{LineError}
use Rattle.nl_commands.specs.declared.error.LineError.TheVariants.{Memory}
use Rattle.nl_commands.specs.CommandNames.{CommandEntry, commands, entry_in}
use Rattle.nl_commands.specs.Grammars.{grammar, is_readable}

are_readable : List CommandEntry → Bool
are_readable [] = true
are_readable (e ∷ entries) = is_readable (grammar e.word e.rules) && are_readable entries

all_readable : are_readable commands ≡ true
unfolding clap_on_literals are_readable commands
all_readable = refl

-- the first that is named is the first of the list, or is among the others
named_first : (word : Text) (x e : CommandEntry) (entries : List CommandEntry) (b : Bool)
    → bytes_eq x.word word ≡ b → entry_in word (x ∷ entries) ≡ Some e
    → (x ≡ e) ⊎ (entry_in word entries ≡ Some e)
named_first word x e entries true is found = inl (cc)
named_first word x e entries false is found = inr (cc)

found_readable : (word : Text) (entries : List CommandEntry) (e : CommandEntry) → are_readable entries ≡ true
    → entry_in word entries ≡ Some e → is_readable (grammar e.word e.rules) ≡ true
unfolding are_readable
found_readable word [] e readable found = cc
found_readable word (x ∷ entries) e readable found =
    let parts = both _ _ readable in
    elim (named_first word x e entries (bytes_eq x.word word) refl found) [
      | inl is ↦ subst (λ (y : CommandEntry). is_readable (grammar y.word y.rules) ≡ true) is parts.0
      | inr later ↦ found_readable word entries e parts.1 later
    ]

-- the grammar of a command that is named is readable
pub named_readable : (word : Text) (e : CommandEntry) → entry_in word commands ≡ Some e
    → is_readable (grammar e.word e.rules) ≡ true
named_readable word e found = found_readable word commands e all_readable found

-- what the rows mean is refused where reading them is, with the same error
pub refused-read : {B : Type 0} (expected : Result (List Row) LineError)
    (next : List Row → Result B LineError) (e : LineError) (result : Result B LineError)
    → result ≡ Err e → IsUnless Memory (Err e) expected → IsUnless Memory result (and_then expected next)
refused-read expected next e result is read = λ other.
    is ∙ ap (λ (r : Result (List Row) LineError). and_then r next) (read (λ same. other (cc)))

-- and else it is what the rows that were read mean
pub meant-read : {B : Type 0} (expected : Result (List Row) LineError) (next : List Row → Result B LineError)
    (rows : List Row) (result : Result B LineError)
    → IsUnless Memory (Ok rows) expected → IsUnless Memory result (next rows)
    → IsUnless Memory result (and_then expected next)
meant-read expected next rows result read means = λ other.
    means other ∙ ap (λ (r : Result (List Row) LineError). and_then r next) (read (λ same. cc))
