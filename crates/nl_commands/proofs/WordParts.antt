-- What std's patterns say of a text, in the words of `Splitting`.
use Rattle.std.proofs.Common.{arith, ◌⊎◌, ℕ, ◌≡◌, ◌≢◌, ◌<◌, ◌≤◌, Bool, true, false, length, take, drop, get_or, slice_index, List, [], ◌∷◌, ◌++◌, Option, None, Some, unwrap_or, MatchOption, Bor, All, IfSome, sym, ap, refl, subst, ◌∙◌, inl, inr, ⊎_elim, take-append-drop, append_assoc}
use Rattle.std.specs.Prelude.{◌==◌}
use Rattle.std.proofs.lemmas.Str.{NoCharPasses-byte}
use Rattle.std.proofs.lemmas.Str.Pattern.{IsSplitOnceResult, split_parts, drop_at_char}
use Rattle.std.proofs.lemmas.List.Elements.{All-from_get_or, All-nil, All-push}
use Rattle.std.proofs.lemmas.Bool.Decides.{nat_tests, leb_tells}
use Rattle.std.specs.Str.{NoCharPasses}
use Rattle.std.specs.Char.{char_set_contains, encode_utf8, IsScalar}
use Rattle.std.specs.Str.Pattern.{FindsBy, FindsPrefixBy, SplitsAroundMatch, CutsPrefixes, IsTrimStartMatches}
use Rattle.nl_types.specs.Plain.Characters.{is_blank}
use Rattle.nl_commands.specs.Splitting.{IsQuotedWord, IsOpen, IsPlainWord, IsFirstWord, IsTrimmed, BeginsWith}

-- ---- a quoted word

pub begins_otherwise : (text : List ℕ) → ((rest : List ℕ) → text ≢ 34 ∷ rest) → slice_index text 0 ≢ 34
begins_otherwise [] h e = absurd (omega arith)
begins_otherwise (b ∷ bs) h e = h bs (ap (λ x. x ∷ bs) e)

no_later : (text quoted : List ℕ) → text ≡ 34 ∷ quoted
    → ((i : ℕ) → i < length quoted → get_or quoted i 0 ≢ 34) → IsOpen text
no_later text quoted e h = record {
  begins = ap (λ t. slice_index t 0) e;
  inside =
      subst (λ t. All (λ byte. byte ≢ 34) (drop 1 t)) (sym e)
      (All-from_get_or (λ byte. byte ≢ 34) quoted 0 h);
}

quoted_word : (text quoted word rest : List ℕ) → text ≡ 34 ∷ quoted → quoted ≡ word ++ 34 ∷ rest
    → ((i : ℕ) → i < length word → get_or word i 0 ≢ 34)
    → IsQuotedWord text word rest
quoted_word text quoted word rest e f h = record {
  parts = e ∙ ap (λ t. 34 ∷ t) f;
  inside = All-from_get_or (λ byte. byte ≢ 34) word 0 h;
}

-- what `split_once` answers behind the first quotation mark
pub quoted_result : (text quoted : List ℕ) (r : Option (Bor (List ℕ) × Bor (List ℕ))) → text ≡ 34 ∷ quoted
    → IsSplitOnceResult 34 quoted r
    → MatchOption r (IsOpen text) (λ parts. IsFirstWord text parts.0.now parts.1.now)
quoted_result text quoted None e h = no_later text quoted e (split_parts 34 quoted None h (omega arith))
quoted_result text quoted (Some p) e h =
    let parts = split_parts 34 quoted (Some p) h (omega arith) in
    inl (quoted_word text quoted p.0.now p.1.now e parts.0 parts.1)

-- ---- a plain word

-- std's pattern of the two blanks is of these bytes
blank_set : (c : ℕ) → char_set_contains (32 ∷ 9 ∷ []) c ≡ is_blank c
blank_set c = grind (arith, nat_tests)

low_blank : (c : ℕ) → is_blank c ≡ true → c < 128
low_blank c e = grind (arith, nat_tests)

high_byte : (b : ℕ) → 128 ≤ b → is_blank b ≡ false
high_byte b h = grind (arith, nat_tests)

no_blank_at : (bs : List ℕ) (i : ℕ) → NoCharPasses is_blank bs → i < length bs
    → is_blank (get_or bs i 0) ≡ false
no_blank_at bs i h l =
    ⊎_elim (λ high. high_byte _ high.1) (λ low. NoCharPasses-byte is_blank bs i h l low.1)
    (leb_tells 128 (get_or bs i 0))

no_blank : (bs : List ℕ) → NoCharPasses is_blank bs → All (λ byte. is_blank byte ≡ false) bs
no_blank bs h = All-from_get_or (λ byte. is_blank byte ≡ false) bs 0 (λ i l. no_blank_at bs i h l)

all_plain : (text : List ℕ) → NoCharPasses is_blank text → IsPlainWord text text []
all_plain text h = record { parts = inl (refl, refl); inside = no_blank text h }

-- where std's pattern of the two blanks finds one
abbrev FindsBlank : List ℕ → Option (ℕ × ℕ) → Type 0
FindsBlank text r = (k : ℕ → Bool) → ((c : ℕ) → char_set_contains (32 ∷ 9 ∷ []) c ≡ k c) → FindsBy k text r

before_blank : (text word rest : List ℕ) → SplitsAroundMatch FindsBlank text word rest
    → IsPlainWord text word rest
before_blank text word rest h =
    let found : FindsBy is_blank text (Some (h.0, h.1)) = h.2 is_blank blank_set in
    let cut : drop h.0 text ≡ found.1.0 ∷ drop h.1 text =
    drop_at_char found.1.0 text h.0 h.1 found.1.2 (low_blank found.1.0 found.1.1) in
    let joined : take h.0 text ++ drop h.0 text ≡ text = take-append-drop h.0 text in
    record {
      parts = inr (found.1.0, found.1.1, cc (h.3, h.4));
      inside =
          subst (λ w. All (λ byte. is_blank byte ≡ false) w) (sym h.3) (no_blank (take h.0 text) found.0);
    }

-- what `split_once` at a blank answers, or all where it finds none
pub plain_result : (text : List ℕ) (r : Option (Bor (List ℕ) × Bor (List ℕ))) (all none : Bor (List ℕ))
    → all.now ≡ text → none.now ≡ []
    → MatchOption r (FindsBlank text None) (λ x. SplitsAroundMatch FindsBlank text x.0.now x.1.now)
    → IsPlainWord text (unwrap_or r (all, none)).0.now (unwrap_or r (all, none)).1.now
plain_result text None all none e f h =
    subst (λ w. IsPlainWord text w none.now) (sym e)
    (subst (λ t. IsPlainWord text text t) (sym f) (all_plain text (h is_blank blank_set)))
plain_result text (Some x) all none e f h = before_blank text x.0.now x.1.now h

-- ---- a plain word that no tab ends

neither_blank : (b : ℕ) → b ≢ 32 → b ≢ 9 → is_blank b ≡ false
neither_blank b s t = grind (arith, nat_tests)

without_blanks : (word : List ℕ) → ((i : ℕ) → i < length word → get_or word i 0 ≢ 32)
    → ((i : ℕ) → i < length word → get_or word i 0 ≢ 9)
    → All (λ byte. is_blank byte ≡ false) word
without_blanks word s t =
    All-from_get_or (λ byte. is_blank byte ≡ false) word 0
    (λ i l. neither_blank (get_or word i 0) (s i l) (t i l))

-- what `split_once` at a space answers, or all where it finds none: a word, if no tab stands in it
pub spaced_result : (text : List ℕ) (r : Option (Bor (List ℕ) × Bor (List ℕ))) (all none : Bor (List ℕ))
    → all.now ≡ text → none.now ≡ [] → IsSplitOnceResult 32 text r
    → ((i : ℕ) → i < length (unwrap_or r (all, none)).0.now → get_or (unwrap_or r (all, none)).0.now i 0 ≢ 9)
    → IsPlainWord text (unwrap_or r (all, none)).0.now (unwrap_or r (all, none)).1.now
spaced_result text None all none e f h t =
    let free =
    subst (λ w. (i : ℕ) → i < length w → get_or w i 0 ≢ 32) (sym e)
    (split_parts 32 text None h (omega arith)) in
    record { parts = inl (sym e, f); inside = without_blanks all.now free t }
spaced_result text (Some x) all none e f h t =
    let cut = split_parts 32 text (Some x) h (omega arith) in
    record { parts = inr (32, refl, cut.0); inside = without_blanks x.0.now cut.1 t }

-- ---- blanks at the head

-- where std's pattern of the two blanks finds one at the head
abbrev BlankAtHead : List ℕ → Option ℕ → Type 0
BlankAtHead text r =
    (k : ℕ → Bool) → ((c : ℕ) → char_set_contains (32 ∷ 9 ∷ []) c ≡ k c) → FindsPrefixBy k text r

-- a text without the blank that begins it
blank_first : (text : List ℕ) (n : ℕ) → BlankAtHead text (Some n)
    → (blank : ℕ) × (is_blank blank ≡ true) × (text ≡ blank ∷ drop n text)
blank_first text n h =
    let found = h is_blank blank_set in
    (found.0, found.1, drop_at_char found.0 text 0 n found.2 (low_blank found.0 found.1))

cut_blanks : (text : List ℕ) (ns : List ℕ) (rest : List ℕ) → CutsPrefixes BlankAtHead text ns rest
    → (blanks : List ℕ) × (text ≡ blanks ++ rest) × All (λ byte. is_blank byte ≡ true) blanks
cut_blanks text [] rest h = ([], sym h, All-nil (λ byte. is_blank byte ≡ true))
cut_blanks text (n ∷ ns) rest h =
    let before = cut_blanks text ns h.0 h.1 in
    let first = blank_first h.0 n h.2 in (
      before.0 ++ first.0 ∷ [],
      before.1 ∙ ap (λ t. before.0 ++ t) (first.2 ∙ ap (λ t. first.0 ∷ t) (sym h.3))
          ∙ sym (append_assoc before.0 (first.0 ∷ []) rest),
      All-push (λ byte. is_blank byte ≡ true) before.0 first.0 before.2 first.1,
    )

blank_is : (b : ℕ) → is_blank b ≡ true → (b ≡ 32) ⊎ (b ≡ 9)
blank_is b e = grind (arith, nat_tests)

not_true : (x : Bool) → (x ≡ true → x ≡ false) → x ≡ false
not_true true h = h refl
not_true false h = refl

no_blank_first : (text : List ℕ) → BlankAtHead text None → is_blank (slice_index text 0) ≡ false
unfolding encode_utf8
no_blank_first [] h = refl
no_blank_first (b ∷ bs) h =
    let at : (c : ℕ) → IsScalar c → b ∷ bs ≡ encode_utf8 c ++ bs → is_blank c ≡ false = λ c.
    h is_blank blank_set c bs in
    not_true (is_blank b)
    (λ yes.
    ⊎_elim (λ e. ap is_blank e ∙ at 32 refl (ap (λ x. x ∷ bs) e))
    (λ e. ap is_blank e ∙ at 9 refl (ap (λ x. x ∷ bs) e)) (blank_is b yes))

trimmed_ends : (rest : List ℕ) (o : Option ℕ) → BlankAtHead rest o → IfSome o (λ n. n ≡ 0)
    → is_blank (slice_index rest 0) ≡ false
trimmed_ends rest None h none = no_blank_first rest h
trimmed_ends rest (Some n) h none =
    absurd (omega (arith, ap length (blank_first rest n h).2, ap (λ k. length (drop k rest)) none))

-- what `trim_start_matches` of the blanks answers
pub trimmed_result : (text rest : List ℕ) → IsTrimStartMatches BlankAtHead text rest → IsTrimmed text rest
trimmed_result text rest h =
    let cut = cut_blanks text h.0.0 rest h.0.1 in
    record { blanks = cut.0; parts = cut.1; inside = cut.2; ends = trimmed_ends rest h.1.0 h.1.1 h.1.2 }

-- ---- words one after another

pub BeginsWith-push : (text : List ℕ) (words : List (List ℕ)) (rest start behind word : List ℕ)
    → BeginsWith text words rest → IsTrimmed rest start → start ≢ [] → IsFirstWord start word behind
    → BeginsWith text (words ++ word ∷ []) behind
BeginsWith-push text [] rest start behind word begins trimmed some first =
    (start, behind, subst (λ t. IsTrimmed t start) begins trimmed, some, first, refl)
BeginsWith-push text (w ∷ words) rest start behind word begins trimmed some first = (
  begins.0,
  begins.1,
  begins.2,
  begins.3,
  begins.4,
  BeginsWith-push begins.1 words rest start behind word begins.5 trimmed some first,
)

-- what `is_empty` answers
pub holds_nothing : (text : List ℕ) → true ≡ (length text == 0) → text ≡ []
holds_nothing [] h = refl
holds_nothing (b ∷ bs) h = absurd (grind (arith, nat_tests, h))

pub holds_something : (text : List ℕ) → false ≡ (length text == 0) → text ≢ []
holds_something [] h e = cc
holds_something (b ∷ bs) h e = cc
