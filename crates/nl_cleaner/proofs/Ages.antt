-- Candidates by age, and the first of them.
use Rattle.std.proofs.Common.{◌≡◌, ◌≢◌, ◌⊎◌, ℕ, zero, suc, ◌+◌, ◌-◌, ◌<◌, ◌≤◌, min, Bool, true, false, cond, List, length, take, get_or, eqb, inl, inr, sym, refl, ap, subst, ◌∙◌, arith}
use Rattle.std.specs.Prelude.{map}
use Rattle.std.specs.List.{All, AllPairs, Contains}
use Rattle.std.specs.List.Sorted.{IsNonDecreasingBy, IsPermutation, IsSortedByKey, IsStableByKey}
use Rattle.std.specs.Ordering.{is_lt, nat_cmp}
use Rattle.std.specs.declared.cmp.Ordering.TheVariants.{Less, Equal, Greater}
use Rattle.std.proofs.lemmas.Bool.{cases_lt, eq-eqb, ne_eqb, le-ltb}
use Rattle.std.proofs.lemmas.Bool.Decides.{Decides-eqb, eqb_tells}
use Rattle.std.proofs.lemmas.List.{length-map, get_or-map, get_or-take, get_or_default, length-take}
use Rattle.std.proofs.lemmas.List.Sorted.{IsPermutation-map, IsPermutation-sym, Contains-permutation, ties_still_rise}
use Rattle.std.proofs.lemmas.Map.Keys.{IsDistinct-IsPermutation}
use Rattle.std.proofs.lemmas.Map.Made.{AllPairs-from_IsDistinct, IsDistinct-from_AllPairs}
use Rattle.nl_cleaner.specs.Private.Choice.{AreFirst, Ascend, IsOlderCandidate, InOrder, segment_of, stamp_of}
use Rattle.nl_cleaner.specs.declared.choice.Candidate.{Candidate}

-- ---- the order

before-trans : (a b c : Candidate) → IsOlderCandidate a b → IsOlderCandidate b c → IsOlderCandidate a c
before-trans a b c (inl p) (inl q) = inl (omega arith)
before-trans a b c (inl p) (inr q) = inl (omega arith)
before-trans a b c (inr p) (inl q) = inl (omega arith)
before-trans a b c (inr p) (inr q) = inr (p.0 ∙ q.0, omega arith)

-- what holds of neighbours holds of all pairs
module _ (cs : List Candidate)
    (near : (k : ℕ) (d : Candidate) → k + 1 < length cs
    → IsOlderCandidate (get_or cs k d) (get_or cs (k + 1) d)) where
  far : (m i : ℕ) (d : Candidate) → i + m + 1 < length cs
      → IsOlderCandidate (get_or cs i d) (get_or cs (i + m + 1) d)
  far zero i d within =
      subst (λ (j : ℕ). IsOlderCandidate (get_or cs i d) (get_or cs j d)) (omega arith)
      (near i d (omega arith))
  far (suc m) i d within =
      before-trans (get_or cs i d) (get_or cs (i + m + 1) d) (get_or cs (i + suc m + 1) d)
      (far m i d (omega arith))
      (subst (λ (j : ℕ). IsOlderCandidate (get_or cs (i + m + 1) d) (get_or cs j d)) (omega arith)
      (near (i + m + 1) d (omega arith)))

  pub all-pairs : InOrder cs
  all-pairs i j d lower within =
      subst (λ (k : ℕ). IsOlderCandidate (get_or cs i d) (get_or cs k d)) (omega arith)
      (far (j - i - 1) i d (omega arith))

-- ---- numbers

not-less : (a b : ℕ) → b ≤ a → is_lt (nat_cmp a b) ≡ false
not-less a b h =
    ap (λ (t : Bool). is_lt (cond t Less (cond (eqb a b) Equal Greater))) (le-ltb a b h) ∙ either (eqb a b)
  where
    either : (t : Bool) → is_lt (cond t Equal Greater) ≡ false
    either true = refl
    either false = refl

ascend-sorted : (cs : List Candidate) → Ascend cs → IsSortedByKey segment_of nat_cmp cs
ascend-sorted cs up k d low within =
    let next : (get_or cs k d).segment < (get_or cs (k + 1) d).segment =
    up k (k + 1) d (omega arith) within in
    not-less (get_or cs (k + 1) d).segment (get_or cs k d).segment (omega arith)

abbrev segments : List Candidate → List ℕ
segments cs = map segment_of cs

eqb-comm : (n m : ℕ) → eqb n m ≡ eqb m n
eqb-comm n m = elim (eqb_tells n m) [
  | inl same ↦ same.0 ∙ sym (eq-eqb m n (sym same.1))
  | inr other ↦ other.0 ∙ sym (ne_eqb m n (λ e. other.1 (sym e)))
]

-- numbers that rise differ, in whatever order
module _ (xs ys : List Candidate) (up : Ascend xs) (moved : IsPermutation xs ys) where
  apart : AllPairs (λ a b. a ≢ b) (segments xs)
  apart i j d lower within =
      let long : j < length xs = subst (λ (n : ℕ). j < n) (length-map xs segment_of) within in
      let default : Candidate = record { stamp = 0; segment = d } in
      let rise : (get_or xs i default).segment < (get_or xs j default).segment = up i j default lower long in
      let first : get_or (segments xs) i d ≡ (get_or xs i default).segment =
      get_or-map segment_of xs i default d (omega arith) in
      let second : get_or (segments xs) j d ≡ (get_or xs j default).segment =
      get_or-map segment_of xs j default d long in
      λ same. absurd (omega (arith, first, second, same, rise))

  pub differ : (k : ℕ) (d : Candidate) → k + 1 < length ys
      → (get_or ys k d).segment ≢ (get_or ys (k + 1) d).segment
  differ k d within same =
      let distinct : AllPairs (λ a b. a ≢ b) (segments ys) =
      AllPairs-from_IsDistinct Decides-eqb (segments ys)
      (IsDistinct-IsPermutation eqb eqb-comm (segments xs) (segments ys)
      (IsPermutation-map segment_of xs ys moved)
      (IsDistinct-from_AllPairs Decides-eqb (segments xs) apart)) in
      let long : k + 1 < length (segments ys) =
      subst (λ (n : ℕ). k + 1 < n) (sym (length-map ys segment_of)) within in
      distinct k (k + 1) d.segment (omega arith) long
      (get_or-map segment_of ys k d d.segment (omega arith) ∙ same
      ∙ sym (get_or-map segment_of ys (k + 1) d d.segment within))

-- ---- after a stable sort

pub in-order : (xs ys : List Candidate) → Ascend xs → IsPermutation xs ys → IsNonDecreasingBy stamp_of ys
    → IsStableByKey stamp_of nat_cmp xs ys → InOrder ys
in-order xs ys up moved rising stable = all-pairs ys near
  where
    near : (k : ℕ) (d : Candidate) → k + 1 < length ys
        → IsOlderCandidate (get_or ys k d) (get_or ys (k + 1) d)
    near k d within = elim (eqb_tells (get_or ys k d).stamp (get_or ys (k + 1) d).stamp) [
      | inl e ↦
          let ties : (get_or ys k d).segment ≤ (get_or ys (k + 1) d).segment =
          ties_still_rise segment_of stamp_of xs ys (ascend-sorted xs up) stable k d within e.1 in
          let apart : (get_or ys k d).segment ≢ (get_or ys (k + 1) d).segment =
          differ xs ys up moved k d within in
          inr (e.1, omega arith)
      | inr e ↦
          let up : (get_or ys k d).stamp ≤ (get_or ys (k + 1) d).stamp =
          rising k (k + 1) d (omega arith) within in
          let apart : (get_or ys k d).stamp ≢ (get_or ys (k + 1) d).stamp = e.1 in
          inl (omega arith)
    ]

-- ---- the first of them

pub are-first : (most : ℕ) (xs ys : List Candidate) → InOrder ys → IsPermutation xs ys
    → AreFirst most xs (take most ys)
are-first most xs ys ordered moved = record { in_order = in_order; few = few; among = among; rest = rest }
  where
    long : length (take most ys) ≡ min most (length ys)
    long = length-take most ys

    in_order : InOrder (take most ys)
    in_order i j d lower within =
        subst (λ (c : Candidate). IsOlderCandidate c (get_or (take most ys) j d))
        (sym (get_or-take most ys i d (omega (arith, long))))
        (subst (IsOlderCandidate (get_or ys i d)) (sym (get_or-take most ys j d (omega (arith, long))))
        (ordered i j d lower (omega (arith, long))))

    few : length (take most ys) ≤ most
    few = omega (arith, long)

    among : All (Contains xs) (take most ys)
    among k d within =
        subst (Contains xs) (sym (get_or-take most ys k d (omega (arith, long))))
        (Contains-permutation ys xs (get_or ys k d) (IsPermutation-sym xs ys moved)
        (k, omega (arith, long), get_or_default ys k (get_or ys k d) d (omega (arith, long))))

    rest : (c : Candidate) → Contains xs c
        → Contains (take most ys) c
        ⊎ ((length (take most ys) ≡ most) × All (λ v. IsOlderCandidate v c) (take most ys))
    rest c found = by_place (Contains-permutation xs ys c moved found)
      where
        by_place : Contains ys c
            → Contains (take most ys) c
            ⊎ ((length (take most ys) ≡ most) × All (λ v. IsOlderCandidate v c) (take most ys))
        by_place (k, within, is) = elim (cases_lt k most) [
          | inl low ↦ inl (k, omega (arith, long), get_or-take most ys k c low ∙ is)
          | inr high ↦ inr (
            omega (arith, long),
            λ i d lower.
                subst (λ (v : Candidate). IsOlderCandidate v c)
                (get_or_default ys i c d (omega (arith, long))
                ∙ sym (get_or-take most ys i d (omega (arith, long))))
                (subst (IsOlderCandidate (get_or ys i c)) is (ordered i k c (omega (arith, long)) within)),
          )
        ]
