-- The needed numbers of a segment, counted by number and by block.
use Rattle.std.proofs.Common.{◌≡◌, ℕ, zero, suc, ◌+◌, ◌≤◌, Bool, true, false, cond, eqb, List, [], ◌∷◌, length, Option, Some, None, inl, inr, sym, refl, ap, ◌∙◌, arith}
use Rattle.std.specs.Prelude.{◌||◌}
use Rattle.std.proofs.lemmas.Bool.{cases_Bool, cases_eq, eqb-true, eq-eqb}
use Rattle.nl_types.specs.Plain.NumberLists.{NoneTwice, is_one_of}
use Rattle.nl_types.specs.Blocks.Entries.{Entry}
use Rattle.nl_sufile.specs.BySegment.{count_to}
use Rattle.nl_vstore.specs.Stores.{IsStore, Store, address_in, capacity, content_in, is_inside}
use Rattle.nl_vstore.specs.Located.{needed_count, needed_in, needs}
use Rattle.nl_vstore.specs.Counts.{NeededAreStanding, needed_places, standing}
use Rattle.nl_vstore.specs.Facts.NumberAt.{needed-inside, needed-member, needed-needs, needed-once, same_bool, same-length}

-- ---- the numbers 1 to n that pass a test

abbrev members : (ℕ → Bool) → ℕ → List ℕ
members test zero = []
members test (suc n) = cond (test (suc n)) (suc n ∷ members test n) (members test n)

length-members : (test : ℕ → Bool) (n : ℕ) → length (members test n) ≡ count_to test n
length-members test zero = refl
length-members test (suc n) =
    elim (test (suc n)) as (λ b.
    length (cond b (suc n ∷ members test n) (members test n)) ≡ cond {A = ℕ} b 1 0 + count_to test n) [
      | true ↦ omega (arith, length-members test n)
      | false ↦ omega (arith, length-members test n)
    ]

members-pass : (test : ℕ → Bool) (n v : ℕ) → is_one_of (members test n) v ≡ true
    → (test v ≡ true) × (1 ≤ v) × (v ≤ n)
members-pass test zero v is = cc
members-pass test (suc n) v is = by (test (suc n)) refl is (members-pass test n v)
  where
    later : (test v ≡ true) × (1 ≤ v) × (v ≤ n) → (test v ≡ true) × (1 ≤ v) × (v ≤ suc n)
    later (passes, low, high) = (passes, low, omega (arith, high))

    by : (b : Bool) → test (suc n) ≡ b → is_one_of (cond b (suc n ∷ members test n) (members test n)) v ≡ true
        → (is_one_of (members test n) v ≡ true → (test v ≡ true) × (1 ≤ v) × (v ≤ n))
        → (test v ≡ true) × (1 ≤ v) × (v ≤ suc n)
    by false h is rest = later (rest is)
    by true h is rest = elim (cases_Bool (eqb v (suc n))) [
      | inl here ↦
          let same = eqb-true v (suc n) here in (ap test same ∙ h, omega (arith, same), omega (arith, same))
      | inr other ↦ later (rest (sym (ap (λ t. t || is_one_of (members test n) v) other) ∙ is))
    ]

pass-members : (test : ℕ → Bool) (n v : ℕ) → test v ≡ true → 1 ≤ v → v ≤ n
    → is_one_of (members test n) v ≡ true
pass-members test zero v passes low high = absurd (omega (arith, low, high))
pass-members test (suc n) v passes low high = elim (cases_eq v (suc n)) [
  | inl same ↦
      ap (λ b. is_one_of (cond b (suc n ∷ members test n) (members test n)) v) (sym (ap test same) ∙ passes)
      ∙ ap (λ t. t || is_one_of (members test n) v) (eq-eqb v (suc n) same)
  | inr other ↦ among (test (suc n)) (pass-members test n v passes low (omega (arith, high, other)))
]
  where
    right : (a : Bool) {b : Bool} → b ≡ true → (a || b) ≡ true
    right true is = refl
    right false is = is

    among : (b : Bool) → is_one_of (members test n) v ≡ true
        → is_one_of (cond b (suc n ∷ members test n) (members test n)) v ≡ true
    among true is = right (eqb v (suc n)) is
    among false is = is

members-once : (test : ℕ → Bool) (n : ℕ) → NoneTwice (members test n)
members-once test zero = tt
members-once test (suc n) =
    elim (test (suc n)) as (λ b. NoneTwice (cond b (suc n ∷ members test n) (members test n))) [
      | true ↦ (
        elim (cases_Bool (is_one_of (members test n) (suc n))) [
          | inl is ↦ absurd (let in_range = members-pass test n (suc n) is in omega (arith, in_range.2))
          | inr is ↦ is
        ],
        members-once test n,
      )
      | false ↦ members-once test n
    ]

-- ---- the store

module _ (s : Store) (needed : Entry → Bool) (segment : ℕ) (store : IsStore s) where
  abbrev inside : ℕ → Bool
  inside v = is_inside s.segments segment (needed_places s needed v)

  -- a needed number of the segment is counted
  counted : (v : ℕ) → is_one_of (needed_in s needed segment) v ≡ true
      → is_one_of (members inside (capacity s)) v ≡ true
  counted v is = by (address_in s v) refl (needed-inside s needed segment v is)
    where
      for : needs needed (content_in s) v ≡ true
      for = needed-needs s needed segment v is

      by : (o : Option ℕ) → address_in s v ≡ o → is_inside s.segments segment (address_in s v) ≡ true
          → is_one_of (members inside (capacity s)) v ≡ true
      by None at h = let wrong : false ≡ true = sym (ap (is_inside s.segments segment) at) ∙ h in cc
      by (Some b) at h =
          let range = store.numbers v b at in
          pass-members inside (capacity s) v
          (ap (λ t. is_inside s.segments segment (cond {A = Option ℕ} t (address_in s v) None)) for ∙ h)
          range.0 range.1

  -- what is counted is needed, and stands there
  found : (v : ℕ) → is_one_of (members inside (capacity s)) v ≡ true
      → is_one_of (needed_in s needed segment) v ≡ true
  found v is = by (needs needed (content_in s) v) refl (members-pass inside (capacity s) v is).0
    where
      at_block : (o : Option ℕ) → address_in s v ≡ o → needs needed (content_in s) v ≡ true
          → is_inside s.segments segment o ≡ true → is_one_of (needed_in s needed segment) v ≡ true
      at_block None at for h = cc
      at_block (Some b) at for h = needed-member s needed segment v b store at h for

      by : (t : Bool) → needs needed (content_in s) v ≡ t
          → is_inside s.segments segment (cond {A = Option ℕ} t (address_in s v) None) ≡ true
          → is_one_of (needed_in s needed segment) v ≡ true
      by true for h = at_block (address_in s v) refl for h
      by false for h = cc

  needed-counted : needed_count s needed segment ≡ standing s needed segment
  needed-counted =
      same-length (needed_in s needed segment) (members inside (capacity s)) (needed-once s needed segment)
      (members-once inside (capacity s))
      (λ v.
      same_bool (is_one_of (needed_in s needed segment) v) (is_one_of (members inside (capacity s)) v)
      (counted v) (found v))
      ∙ length-members inside (capacity s)

pub needed-are-standing : NeededAreStanding
needed-are-standing s needed segment store = needed-counted s needed segment store
