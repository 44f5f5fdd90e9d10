-- Words that are read one after another.
use Rattle.std.proofs.Common.{◌≡◌, ◌∙◌, ◌++◌, ◌+◌, ◌<◌, ℕ, ap, refl, sym, append_assoc, add-one, drop-cons, List, [], ◌∷◌, length, map, drop, get_or, Bor, Result, Ok, Err}
use Rattle.clap.specs.Words.{Text}
use Rattle.nl_types.specs.Plain.Calls.{and_then}
use Rattle.nl_commands.specs.declared.error.LineError.{LineError}
use Rattle.nl_commands.specs.GivenOperands.{each_in}

-- what the items so far and those of the words that are left come to
abbrev pub behind : {A : Type 0} → List A → Result (List A) LineError → Result (List A) LineError
behind before (Ok items) = Ok (before ++ items)
behind before (Err e) = Err e

moved : {A : Type 0} (before : List A) (item : A) (rest : Result (List A) LineError)
    → behind before (and_then rest (λ items. Ok (item ∷ items))) ≡ behind (before ++ item ∷ []) rest
moved before item (Ok items) = ap (λ xs. Ok xs) (sym (append_assoc before (item ∷ []) items))
moved before item (Err e) = refl

pub one_more : {A : Type 0} (read : Text → Result A LineError) (word : Text) (words : List Text)
    (before : List A) (item : A)
    → read word ≡ Ok item
    → behind before (each_in read (word ∷ words)) ≡ behind (before ++ item ∷ []) (each_in read words)
one_more {A} read word words before item is =
    ap (λ (r : Result A LineError).
    behind before (and_then r (λ x. and_then (each_in read words) (λ xs. Ok (x ∷ xs)))))
    is
    ∙ moved before item (each_in read words)

pub none_more : {A : Type 0} (read : Text → Result A LineError) (word : Text) (words : List Text)
    (before : List A) (e : LineError)
    → read word ≡ Err e
    → behind before (each_in read (word ∷ words)) ≡ Err e
none_more {A} read word words before e is =
    ap (λ (r : Result A LineError).
    behind before (and_then r (λ x. and_then (each_in read words) (λ xs. Ok (x ∷ xs)))))
    is

-- what `get_or` reads past the end of a list of words
abbrev pub no_word : Bor Text
no_word = record { ref_ptr = (0, 0); now = [] }

from_next : (words : List (Bor Text)) (k : ℕ) → k < length words
    → drop k words ≡ get_or words k no_word ∷ drop (k + 1) words
from_next words k inside = rw add-one (drop-cons words k no_word inside)

-- one turn of a loop that reads word after word
pub turn : {A : Type 0} (read : Text → Result A LineError) (words : List (Bor Text)) (k : ℕ)
    (before now : List A) (item : A)
    → k < length words → Ok item ≡ read (get_or words k no_word).now → now ≡ before ++ item ∷ []
    → each_in read (map (λ w. w.now) words) ≡ behind before (each_in read (map (λ w. w.now) (drop k words)))
    → each_in read (map (λ w. w.now) words)
    ≡ behind now (each_in read (map (λ w. w.now) (drop (k + 1) words)))
turn {A} read words k before now item inside is pushed so_far =
    let rest : List Text = map (λ w. w.now) (drop (k + 1) words) in
    so_far
    ∙ ap (λ (ws : List (Bor Text)). behind before (each_in read (map (λ w. w.now) ws)))
    (from_next words k inside)
    ∙ one_more read (get_or words k no_word).now rest before item (sym is)
    ∙ ap (λ (xs : List A). behind xs (each_in read rest)) (sym pushed)
