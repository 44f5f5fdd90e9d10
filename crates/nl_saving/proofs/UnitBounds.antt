-- From one unit of a file's bytes to the next.
use Rattle.std.proofs.Common.{◌≡◌, ◌+◌, ◌-◌, ◌*◌, ◌<◌, ◌≤◌, ◌∙◌, ◌++◌, ℕ, List, ap, arith, drop, inl, inr, length, min, replicate, subst, sym, take}
use Rattle.std.specs.Prelude.{slice_range}
use Rattle.std.proofs.lemmas.Bool.{cases_lt}
use Rattle.std.proofs.lemmas.List.{drop-drop, replicate-append-replicate}
use Rattle.nl_saving.specs.Extents.{AreZeros, HasHole, HasNoHole, IsBound}
use Rattle.nl_saving.proofs.WrittenParts.{joined}

-- the beginning is a bound
pub first_bound : (len : ℕ) → IsBound len 0
first_bound len = record { within = omega arith; bound = inl (0, omega arith) }

-- so is the next place, a unit further on
pub next_bound : (len place : ℕ) → IsBound len place → place + 4096 ≤ len → IsBound len (place + 4096)
next_bound len place is within = record {
  within = within;
  bound = elim is.bound [
    | inl begin ↦ inl (begin.0 + 1, omega (arith, begin.1))
    | inr end ↦ absurd (omega (arith, end))
  ];
}

-- or the end, where it is nearer
pub next_or_end : (len place : ℕ) → IsBound len place → place < len
    → IsBound len (place + min 4096 (len - place))
next_or_end len place is before = elim (cases_lt len (place + 4096)) [
  | inl near ↦ record { within = omega arith; bound = inr (omega arith) }
  | inr far ↦
      let whole : place + 4096 ≡ place + min 4096 (len - place) = omega arith in
      subst (IsBound len) whole (next_bound len place is far)
]

-- zeros up to a place, and zeros from there on
pub more_zeros : (bytes : List ℕ) (from place n : ℕ) → from ≤ place → AreZeros bytes from place
    → take n (drop place bytes) ≡ replicate n 0 → AreZeros bytes from (place + n)
more_zeros bytes from place n le before more =
    let m : ℕ = place - from in
    let rest : List ℕ = drop from bytes in
    let there : from + m ≡ place = omega arith in
    let behind : drop m rest ≡ drop place bytes =
    drop-drop m from bytes ∙ ap (λ (k : ℕ). drop k bytes) there in
    let count : m + n - m ≡ n = omega arith in
    let second : slice_range rest m (m + n) ≡ replicate n 0 =
    ap (λ (k : ℕ). take k (drop m rest)) count ∙ (ap (λ (xs : List ℕ). take n xs) behind ∙ more) in
    let up : m ≤ m + n = omega arith in
    let both : take (m + n) rest ≡ replicate (m + n) 0 =
    sym (joined rest m (m + n) up)
    ∙ (ap (λ (xs : List ℕ). take m rest ++ xs) second
    ∙ (ap (λ (xs : List ℕ). xs ++ replicate n 0) before ∙ replicate-append-replicate m n 0)) in
    let size : place + n - from ≡ m + n = omega arith in
    ap (λ (k : ℕ). take k rest) size ∙ (both ∙ ap (λ (k : ℕ). replicate k 0) (sym size))

-- one unit more without a hole
pub more_full : (bytes : List ℕ) (from place n : ℕ) → IsBound (length bytes) place → place < length bytes
    → n ≤ 4096 → HasNoHole bytes from place → (HasHole bytes place → ⊥) → HasNoHole bytes from (place + n)
more_full bytes from place n is before small full none = λ unit behind within hole.
    elim (cases_lt (4096 * unit) place) [
      | inl old ↦ full unit behind old hole
      | inr new ↦ none (subst (HasHole bytes) (here unit within new) hole)
    ]
  where
    here : (unit : ℕ) → 4096 * unit < place + n → place ≤ 4096 * unit → 4096 * unit ≡ place
    here unit within new = elim is.bound [
      | inl begin ↦ omega (arith, begin.1)
      | inr end ↦ absurd (omega (arith, end))
    ]
