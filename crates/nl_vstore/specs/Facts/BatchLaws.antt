-- A batch that fits a store still does after one more birth or end.
use Rattle.std.proofs.Common.{◌≡◌, ℕ, zero, suc, set, take, get_or, ◌-◌, ◌<◌, ◌≤◌, Bool, true, false, eqb, List, [], ◌∷◌, ◌++◌, Some, None, Option, inl, inr, sym, refl, ap, subst, ◌∙◌, length, is_some, Result, Ok, Err, OnOk, arith, ◌+◌, length-append}
use Rattle.std.specs.Prelude.{◌==◌, ◌||◌, ◌⊎◌, slice_get}
use Rattle.std.specs.Option.{option_map_or}
use Rattle.std.proofs.lemmas.Bool.{cases_Bool, cases_lt, both_ways, eqb-true, eq-eqb, or_cases}
use Rattle.std.proofs.lemmas.List.{length_push}
use Rattle.std.proofs.lemmas.List.Folds.{list_any-append}
use Rattle.nl_types.specs.Plain.NumberLists.{is_one_of}
use Rattle.nl_types.specs.Blocks.Entries.{Birth, Content, number_of, birth_of, GivenOnce}
use Rattle.nl_layout.specs.declared.tag.Tag.{Tag}
use Rattle.nl_vstore.specs.Batches.{Changes, CanBeTaken, IsLowestFree, last_number, is_born, is_taken, is_live, with_page, births_of, birth_of_item}

slice_get-push : (xs : List Birth) (x : Birth) → slice_get (xs ++ x ∷ []) (length xs) ≡ Some x
slice_get-push [] x = refl
slice_get-push (y ∷ ys) x = slice_get-push ys x

last_number-push : (births : List Birth) (p : Birth) → last_number (births ++ p ∷ []) ≡ number_of p
last_number-push births p =
    let end : length (births ++ p ∷ []) - 1 ≡ length births = omega (arith, length_push births p) in
    ap (λ n. option_map_or number_of (slice_get (births ++ p ∷ []) n) 0) end
    ∙ ap (λ o. option_map_or number_of o 0) (slice_get-push births p)

-- what is born after one more birth
born_cases : (births : List Birth) (p : Birth) (v : ℕ) → is_born (births ++ p ∷ []) v ≡ true
    → (is_born births v ≡ true) ⊎ (number_of p ≡ v)
born_cases births p v h =
    elim (or_cases (is_born births v) (is_born (p ∷ []) v)
    (sym (list_any-append (λ q. number_of q == v) births (p ∷ [])) ∙ h)) [
      | inl e ↦ inl e
      | inr e ↦ elim (or_cases (eqb (number_of p) v) false e) [
        | inl t ↦ inr (eqb-true (number_of p) v t)
        | inr t ↦ cc
      ]
    ]

born_before : (births : List Birth) (p : Birth) (v : ℕ) → is_born births v ≡ true
    → is_born (births ++ p ∷ []) v ≡ true
born_before births p v h =
    list_any-append (λ q. number_of q == v) births (p ∷ []) ∙ ap (λ b. b || is_born (p ∷ []) v) h

born_last : (births : List Birth) (p : Birth) → is_born (births ++ p ∷ []) (number_of p) ≡ true
born_last births p =
    list_any-append (λ q. number_of q == number_of p) births (p ∷ [])
    ∙ ap (λ b. is_born births (number_of p) || (b || false)) (eq-eqb _ _ refl)
    ∙ or_any (is_born births (number_of p))
  where
    or_any : (b : Bool) → (b || true) ≡ true
    or_any true = refl
    or_any false = refl

none_of : {A : Type 0} (o : Option A) → is_some o ≡ false → o ≡ None
none_of None h = refl
none_of (Some x) h = cc

free_parts : (a b : Bool) → (a || b) ≡ false → (a ≡ false) × (b ≡ false)
free_parts false b h = (refl, h)
free_parts true b h = cc

birth_of-push : (births : List Birth) (p : Birth) (v : ℕ) → birth_of births v ≡ None
    → eqb v (number_of p) ≡ false → birth_of (births ++ p ∷ []) v ≡ None
birth_of-push [] p v none other = rw other refl
birth_of-push (q ∷ qs) p v none other = elim (cases_Bool (eqb v (number_of q))) [
  | inl e ↦ let given : Some q ≡ None = sym (rw e refl) ∙ none in cc
  | inr e ↦ rw e (birth_of-push qs p v (sym (rw e refl) ∙ none) other)
]

GivenOnce-push : (births : List Birth) (p : Birth) → GivenOnce births → is_born births (number_of p) ≡ false
    → GivenOnce (births ++ p ∷ [])
GivenOnce-push [] p once new = (refl, tt)
GivenOnce-push (q ∷ qs) p once new =
    let parts = free_parts (eqb (number_of q) (number_of p)) (is_born qs (number_of p)) new in
    (birth_of-push qs p (number_of q) once.0 parts.0, GivenOnce-push qs p once.1 parts.1)

pub Fits-birth : (capacity : ℕ) (content : Content) (changes : Changes) (p : Birth)
    → CanBeTaken capacity content changes → IsLowestFree content changes.births (number_of p)
    → number_of p ≤ capacity + length changes.births + 1
    → CanBeTaken capacity content (record changes { births = changes.births ++ p ∷ [] })
Fits-birth capacity content changes p fits fresh low =
    let last : last_number (changes.births ++ p ∷ []) ≡ number_of p = last_number-push changes.births p in
    let above : last_number changes.births < number_of p =
    elim (cases_lt (last_number changes.births) (number_of p)) [
      | inl h ↦ h
      | inr h ↦ absurd (both_ways _ fresh.free (fits.taken (number_of p) fresh.positive h))
    ] in
    record {
      inside = omega (arith, last, low, length-append changes.births (p ∷ []));
      once = GivenOnce-push changes.births p fits.once (free_parts _ _ fresh.free).1;
      taken = λ v positive upto. elim (cases_lt v (number_of p)) [
        | inl h ↦ still_taken v (fresh.lowest v positive h)
        | inr h ↦
            let same : number_of p ≡ v = omega (arith, last, upto, h) in
            let P : ℕ → Type 0 = λ w. is_taken content (changes.births ++ p ∷ []) w ≡ true in
            subst P same (or_right (is_some (content (number_of p))) (born_last changes.births p))
      ];
      unused = λ v born. elim (born_cases changes.births p v born) [
        | inl e ↦ fits.unused v e
        | inr e ↦
            let Q : ℕ → Type 0 = λ w. content w ≡ None in
            subst Q e (none_of (content (number_of p)) (free_parts _ _ fresh.free).0)
      ];
      from_one = λ v born. elim (born_cases changes.births p v born) [
        | inl e ↦ fits.from_one v e
        | inr e ↦ omega (arith, fresh.positive, e)
      ];
      upto_last = λ v born. elim (born_cases changes.births p v born) [
        | inl e ↦
            let upto : v ≤ last_number changes.births = fits.upto_last v e in omega (arith, upto, above, last)
        | inr e ↦ omega (arith, last, e)
      ];
      live = fits.live;
    }
  where
    or_right : (a : Bool) {b : Bool} → b ≡ true → (a || b) ≡ true
    or_right true h = refl
    or_right false h = h

    still_taken : (v : ℕ) → is_taken content changes.births v ≡ true
        → is_taken content (changes.births ++ p ∷ []) v ≡ true
    still_taken v h = elim (or_cases (is_some (content v)) (is_born changes.births v) h) [
      | inl e ↦ ap (λ b. b || is_born (changes.births ++ p ∷ []) v) e
      | inr e ↦ or_right (is_some (content v)) (born_before changes.births p v e)
    ]

ended_cases : (ends : List ℕ) (k v : ℕ) → is_one_of (ends ++ k ∷ []) v ≡ true
    → (is_one_of ends v ≡ true) ⊎ (k ≡ v)
ended_cases [] k v h = elim (or_cases (eqb v k) false h) [
  | inl e ↦ inr (sym (eqb-true v k e))
  | inr e ↦ cc
]
ended_cases (x ∷ xs) k v h = elim (or_cases (eqb v x) (is_one_of (xs ++ k ∷ []) v) h) [
  | inl e ↦ inl (ap (λ b. b || is_one_of xs v) e)
  | inr e ↦ elim (ended_cases xs k v e) [
    | inl t ↦ inl (or_right (eqb v x) t)
    | inr t ↦ inr t
  ]
]
  where
    or_right : (a : Bool) {b : Bool} → b ≡ true → (a || b) ≡ true
    or_right true h = refl
    or_right false h = h

pub Fits-end : (capacity : ℕ) (content : Content) (changes : Changes) (k : ℕ)
    → CanBeTaken capacity content changes → is_live (content k) ≡ true
    → CanBeTaken capacity content (record changes { ends = changes.ends ++ k ∷ [] })
Fits-end capacity content changes k fits live = record {
  inside = fits.inside;
  once = fits.once;
  taken = fits.taken;
  unused = fits.unused;
  from_one = fits.from_one;
  upto_last = fits.upto_last;
  live = λ v h. elim (ended_cases changes.ends k v h) [
    | inl e ↦ fits.live v e
    | inr e ↦ let P : ℕ → Type 0 = λ w. is_live (content w) ≡ true in subst P e live
  ];
}

pub Fits-none : (capacity : ℕ) (content : Content)
    → CanBeTaken capacity content (record { births = []; ends = [] })
Fits-none capacity content = record {
  inside = omega arith;
  once = tt;
  taken = λ v positive upto. absurd (omega arith);
  unused = λ v born. cc;
  from_one = λ v born. cc;
  upto_last = λ v born. cc;
  live = λ v h. cc;
}

-- what follows where a call succeeded
pub on_ok : {A E P Q : Type 0} (r : Result A E) → OnOk r P → (P → Q) → OnOk r Q
on_ok (Ok x) p f = f p
on_ok (Err e) p f = tt

-- ---- another page of a birth

length-with_page : (i : ℕ) (page : List ℕ) (births : List Birth)
    → length (with_page i page births) ≡ length births
length-with_page i page [] = refl
length-with_page zero page (b ∷ births) = refl
length-with_page (suc i) page (b ∷ births) = ap suc (length-with_page i page births)

is_born-with_page : (i : ℕ) (page : List ℕ) (births : List Birth) (v : ℕ)
    → is_born (with_page i page births) v ≡ is_born births v
is_born-with_page i page [] v = refl
is_born-with_page zero page (b ∷ births) v = refl
is_born-with_page (suc i) page (b ∷ births) v =
    ap (λ t. (number_of b == v) || t) (is_born-with_page i page births v)

number-with_page : (i : ℕ) (page : List ℕ) (births : List Birth) (k : ℕ)
    → option_map_or number_of (slice_get (with_page i page births) k) 0
    ≡ option_map_or number_of (slice_get births k) 0
number-with_page i page [] k = refl
number-with_page zero page (b ∷ births) zero = refl
number-with_page zero page (b ∷ births) (suc k) = refl
number-with_page (suc i) page (b ∷ births) zero = refl
number-with_page (suc i) page (b ∷ births) (suc k) = number-with_page i page births k

last_number-with_page : (i : ℕ) (page : List ℕ) (births : List Birth)
    → last_number (with_page i page births) ≡ last_number births
last_number-with_page i page births =
    ap (λ n. option_map_or number_of (slice_get (with_page i page births) (n - 1)) 0)
    (length-with_page i page births)
    ∙ number-with_page i page births (length births - 1)

birth_of-with_page : (i : ℕ) (page : List ℕ) (births : List Birth) (v : ℕ) → birth_of births v ≡ None
    → birth_of (with_page i page births) v ≡ None
birth_of-with_page i page [] v none = refl
birth_of-with_page zero page (b ∷ births) v none = elim (cases_Bool (eqb v (number_of b))) [
  | inl e ↦ let given : Some b ≡ None = sym (rw e refl) ∙ none in cc
  | inr e ↦ rw e (sym (rw e refl) ∙ none)
]
birth_of-with_page (suc i) page (b ∷ births) v none = elim (cases_Bool (eqb v (number_of b))) [
  | inl e ↦ let given : Some b ≡ None = sym (rw e refl) ∙ none in cc
  | inr e ↦ rw e (birth_of-with_page i page births v (sym (rw e refl) ∙ none))
]

GivenOnce-with_page : (i : ℕ) (page : List ℕ) (births : List Birth) → GivenOnce births
    → GivenOnce (with_page i page births)
GivenOnce-with_page i page [] once = tt
GivenOnce-with_page zero page (b ∷ births) once = once
GivenOnce-with_page (suc i) page (b ∷ births) once =
    (birth_of-with_page i page births (number_of b) once.0, GivenOnce-with_page i page births once.1)

pub Fits-with_page : (capacity : ℕ) (content : Content) (changes : Changes) (i : ℕ) (page : List ℕ)
    → CanBeTaken capacity content changes
    → CanBeTaken capacity content (record changes { births = with_page i page changes.births })
Fits-with_page capacity content changes i page fits =
    let last = last_number-with_page i page changes.births in
    let born = is_born-with_page i page changes.births in
    record {
      inside = omega (arith, fits.inside, last, length-with_page i page changes.births);
      once = GivenOnce-with_page i page changes.births fits.once;
      taken = λ v positive upto.
          ap (λ t. is_some (content v) || t) (born v) ∙ fits.taken v positive (omega arith);
      unused = λ v is. fits.unused v (sym (born v) ∙ is);
      from_one = λ v is. fits.from_one v (sym (born v) ∙ is);
      upto_last = λ v is. let upto = fits.upto_last v (sym (born v) ∙ is) in omega arith;
      live = fits.live;
    }

pub set_page_births : (items : List (Tag × List ℕ)) (i : ℕ) (page : List ℕ) (item : Tag × List ℕ)
    → i < length items → item ≡ get_or items i item
    → births_of (set items i (item.0, page)) ≡ with_page i page (births_of items)
set_page_births [] i page item within is = refl
set_page_births (x ∷ items) zero page item within is =
    ap (λ (y : Tag × List ℕ). birth_of_item (y.0, page) ∷ births_of items) is
set_page_births (x ∷ items) (suc i) page item within is =
    ap (λ bs. birth_of_item x ∷ bs) (set_page_births items i page item (omega arith) is)

pub births_of-take : (items : List (Tag × List ℕ)) (n : ℕ)
    → births_of (take n items) ≡ take n (births_of items)
births_of-take [] zero = refl
births_of-take [] (suc n) = refl
births_of-take (x ∷ items) zero = refl
births_of-take (x ∷ items) (suc n) = ap (λ bs. birth_of_item x ∷ bs) (births_of-take items n)
