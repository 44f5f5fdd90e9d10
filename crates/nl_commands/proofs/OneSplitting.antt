-- A text is parted into words in one way.
use Rattle.std.proofs.Common.{arith, ℕ, suc, ◌≡◌, ◌≢◌, ◌⊎◌, true, false, true≢false, List, [], ◌∷◌, ◌++◌, drop, slice_index, All, inl, inr, ap, refl, sym, subst, ◌∙◌}
use Rattle.nl_types.specs.Plain.Characters.{is_blank}
use Rattle.nl_commands.specs.Splitting.{IsOpen, IsQuotedWord, IsFirstWord, IsTrimmed, BeginsWith}

-- ---- a list that is cut at the first element that is not inside

all_head : (P : ℕ → Type 0) (x : ℕ) (xs : List ℕ) → All P (x ∷ xs) → P x
all_head P x xs all = all 0 x (omega arith)

all_tail : (P : ℕ → Type 0) (x : ℕ) (xs : List ℕ) → All P (x ∷ xs) → All P xs
all_tail P x xs all = λ k d inside. all (suc k) d (omega arith)

module _ (Inside Ends : ℕ → Type 0) (apart : (b : ℕ) → Inside b → Ends b → ⊥) where
  has_no_end : (xs ys rest : List ℕ) (d : ℕ) → All Inside xs → Ends d → xs ≡ ys ++ d ∷ rest → ⊥
  has_no_end [] [] rest d inside ends e = cc
  has_no_end [] (y ∷ ys) rest d inside ends e = cc
  has_no_end (x ∷ xs) [] rest d inside ends e =
      let equal : x ≡ d = cc in apart d (subst Inside equal (all_head Inside x xs inside)) ends
  has_no_end (x ∷ xs) (y ∷ ys) rest d inside ends e =
      let equal : xs ≡ ys ++ d ∷ rest = cc in has_no_end xs ys rest d (all_tail Inside x xs inside) ends equal

  one_cut : (xs ys rest others : List ℕ) (c d : ℕ) → All Inside xs → All Inside ys → Ends c → Ends d
      → xs ++ c ∷ rest ≡ ys ++ d ∷ others → (xs ≡ ys) × (rest ≡ others)
  one_cut [] [] rest others c d ix iy ec ed e = (refl, cc)
  one_cut [] (y ∷ ys) rest others c d ix iy ec ed e =
      let equal : y ≡ c = cc in absurd (apart c (subst Inside equal (all_head Inside y ys iy)) ec)
  one_cut (x ∷ xs) [] rest others c d ix iy ec ed e =
      let equal : x ≡ d = cc in absurd (apart d (subst Inside equal (all_head Inside x xs ix)) ed)
  one_cut (x ∷ xs) (y ∷ ys) rest others c d ix iy ec ed e =
      let first : x ≡ y = cc in
      let behind : xs ++ c ∷ rest ≡ ys ++ d ∷ others = cc in
      let more =
      one_cut xs ys rest others c d (all_tail Inside x xs ix) (all_tail Inside y ys iy) ec ed behind in
      (ap (λ z. z ∷ xs) first ∙ ap (λ zs. y ∷ zs) more.0, more.1)

-- ---- words

abbrev IsInside : ℕ → Type 0
IsInside b = b ≢ 34

abbrev IsQuote : ℕ → Type 0
IsQuote b = b ≡ 34

abbrev IsNoBlank : ℕ → Type 0
IsNoBlank b = is_blank b ≡ false

abbrev IsBlank : ℕ → Type 0
IsBlank b = is_blank b ≡ true

quote_apart : (b : ℕ) → IsInside b → IsQuote b → ⊥
quote_apart b inside is = inside is

blank_apart : (b : ℕ) → IsNoBlank b → IsBlank b → ⊥
blank_apart b none is = true≢false (sym is ∙ none)

behind_quote : (text word rest : List ℕ) → IsQuotedWord text word rest → drop 1 text ≡ word ++ 34 ∷ rest
behind_quote text word rest quoted = ap (drop 1) quoted.parts

one_quoted : (text word rest other others : List ℕ) → IsQuotedWord text word rest
    → IsQuotedWord text other others → (word ≡ other) × (rest ≡ others)
one_quoted text word rest other others is also =
    one_cut IsInside IsQuote quote_apart word other rest others 34 34 is.inside also.inside refl refl
    (sym (behind_quote text word rest is) ∙ behind_quote text other others also)

abbrev EndsAtBlank : List ℕ → List ℕ → List ℕ → Type 0
EndsAtBlank text word rest = (blank : ℕ) × (is_blank blank ≡ true) × (text ≡ word ++ blank ∷ rest)

abbrev PlainParts : List ℕ → List ℕ → List ℕ → Type 0
PlainParts text word rest = ((text ≡ word) × (rest ≡ [])) ⊎ EndsAtBlank text word rest

one_plain : (text word rest other others : List ℕ) → PlainParts text word rest → PlainParts text other others
    → All IsNoBlank word → All IsNoBlank other
    → (word ≡ other) × (rest ≡ others)
one_plain text word rest other others (inl a) (inl b) iw io = (sym a.0 ∙ b.0, a.1 ∙ sym b.1)
one_plain text word rest other others (inl a) (inr b) iw io =
    absurd (has_no_end IsNoBlank IsBlank blank_apart word other others b.0 iw b.1 (sym a.0 ∙ b.2))
one_plain text word rest other others (inr a) (inl b) iw io =
    absurd (has_no_end IsNoBlank IsBlank blank_apart other word rest a.0 io a.1 (sym b.0 ∙ a.2))
one_plain text word rest other others (inr a) (inr b) iw io =
    one_cut IsNoBlank IsBlank blank_apart word other rest others a.0 b.0 iw io a.1 b.1 (sym a.2 ∙ b.2)

begins_quoted : (text word rest : List ℕ) → IsQuotedWord text word rest → slice_index text 0 ≡ 34
begins_quoted text word rest quoted = ap (λ t. slice_index t 0) quoted.parts

one_first : (text word rest other others : List ℕ) → IsFirstWord text word rest
    → IsFirstWord text other others → (word ≡ other) × (rest ≡ others)
one_first text word rest other others (inl a) (inl b) = one_quoted text word rest other others a b
one_first text word rest other others (inl a) (inr b) = absurd (b.0 (begins_quoted text word rest a))
one_first text word rest other others (inr a) (inl b) = absurd (a.0 (begins_quoted text other others b))
one_first text word rest other others (inr a) (inr b) =
    one_plain text word rest other others a.1.parts b.1.parts a.1.inside b.1.inside

open_has_no_first : (text word rest : List ℕ) → IsOpen text → IsFirstWord text word rest → ⊥
open_has_no_first text word rest opens (inl a) =
    has_no_end IsInside IsQuote quote_apart (drop 1 text) word rest 34 opens.inside refl
    (behind_quote text word rest a)
open_has_no_first text word rest opens (inr b) = b.0 opens.begins

-- ---- blanks

without_blanks : (blanks others rest end : List ℕ) → All IsBlank blanks → All IsBlank others
    → IsNoBlank (slice_index rest 0) → IsNoBlank (slice_index end 0)
    → blanks ++ rest ≡ others ++ end → rest ≡ end
without_blanks [] [] rest end ib io nr ne e = e
without_blanks [] (o ∷ os) rest end ib io nr ne e =
    absurd (blank_apart o (ap is_blank (sym (ap (λ t. slice_index t 0) e)) ∙ nr) (all_head IsBlank o os io))
without_blanks (b ∷ bs) [] rest end ib io nr ne e =
    absurd (blank_apart b (ap is_blank (ap (λ t. slice_index t 0) e) ∙ ne) (all_head IsBlank b bs ib))
without_blanks (b ∷ bs) (o ∷ os) rest end ib io nr ne e =
    let equal : bs ++ rest ≡ os ++ end = cc in
    without_blanks bs os rest end (all_tail IsBlank b bs ib) (all_tail IsBlank o os io) nr ne equal

one_trimmed : (text rest end : List ℕ) → IsTrimmed text rest → IsTrimmed text end → rest ≡ end
one_trimmed text rest end is also =
    without_blanks is.blanks also.blanks rest end is.inside also.inside is.ends also.ends
    (sym is.parts ∙ also.parts)

-- ---- words one after another

abbrev Words : Type 0
Words = List (List ℕ)

pub one_list : (words others : Words) (text rest end : List ℕ) → BeginsWith text words rest
    → IsTrimmed rest [] → BeginsWith text others end → IsTrimmed end []
    → words ≡ others
one_list [] [] text rest end begins ends also stops = refl
one_list [] (o ∷ os) text rest end begins ends also stops =
    absurd (also.3 (one_trimmed text also.0 [] also.2 (subst (λ t. IsTrimmed t []) begins ends)))
one_list (w ∷ ws) [] text rest end begins ends also stops =
    absurd (begins.3 (one_trimmed text begins.0 [] begins.2 (subst (λ t. IsTrimmed t []) also stops)))
one_list (w ∷ ws) (o ∷ os) text rest end begins ends also stops =
    let start : begins.0 ≡ also.0 = one_trimmed text begins.0 also.0 begins.2 also.2 in
    let first =
    one_first also.0 w begins.1 o also.1 (subst (λ t. IsFirstWord t w begins.1) start begins.4) also.4 in
    let more =
    one_list ws os also.1 rest end
    (subst (λ t. BeginsWith t ws rest) first.1 begins.5) ends also.5 stops in
    ap (λ x. x ∷ ws) first.0 ∙ ap (λ xs. o ∷ xs) more

no_word_opens : (text start : List ℕ) → IsTrimmed text [] → IsTrimmed text start → IsOpen start → ⊥
no_word_opens text start empty trimmed opens =
    let none : start ≡ [] = one_trimmed text start [] trimmed empty in
    let zero : ◌≡◌ {A = ℕ} 34 0 = sym opens.begins ∙ ap (λ (t : List ℕ). slice_index t 0) none in
    absurd (omega arith)

pub open_has_none : (words before : Words) (text rest left start : List ℕ) → BeginsWith text words rest
    → IsTrimmed rest [] → BeginsWith text before left → IsTrimmed left start → IsOpen start → ⊥
open_has_none [] [] text rest left start begins ends also trimmed opens =
    no_word_opens text start (subst (λ t. IsTrimmed t []) begins ends)
    (subst (λ t. IsTrimmed t start) also trimmed) opens
open_has_none [] (o ∷ os) text rest left start begins ends also trimmed opens =
    also.3 (one_trimmed text also.0 [] also.2 (subst (λ t. IsTrimmed t []) begins ends))
open_has_none (w ∷ ws) [] text rest left start begins ends also trimmed opens =
    let equal : begins.0 ≡ start =
    one_trimmed text begins.0 start begins.2 (subst (λ t. IsTrimmed t start) also trimmed) in
    open_has_no_first start w begins.1 opens (subst (λ t. IsFirstWord t w begins.1) equal begins.4)
open_has_none (w ∷ ws) (o ∷ os) text rest left start begins ends also trimmed opens =
    let equal : begins.0 ≡ also.0 = one_trimmed text begins.0 also.0 begins.2 also.2 in
    let first =
    one_first also.0 w begins.1 o also.1 (subst (λ t. IsFirstWord t w begins.1) equal begins.4) also.4 in
    open_has_none ws os also.1 rest left start
    (subst (λ t. BeginsWith t ws rest) first.1 begins.5) ends also.5 trimmed opens
