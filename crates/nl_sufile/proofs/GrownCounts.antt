-- Counts of more numbers and more segments.
use Rattle.std.proofs.Common.{◌≡◌, ℕ, zero, suc, ◌+◌, ◌-◌, ◌<◌, ◌≤◌, Bool, false, List, [], ◌∷◌, ◌++◌, length, inl, inr, sym, refl, ap, ◌∙◌, arith}
use Rattle.std.specs.Prelude.{replicate, slice_index_or}
use Rattle.std.proofs.lemmas.Bool.{cases_lt}
use Rattle.std.proofs.lemmas.List.{get_or_past}
use Rattle.nl_types.specs.Blocks.PartialMaps.{Partial}
use Rattle.nl_sufile.specs.BySegment.{AreCounts, GrownAreCounted, bit, count_in, count_to, grown_counts, lies_in}

-- no later number passes
count-more : (test : ℕ → Bool) (n more : ℕ) → ((v : ℕ) → n < v → test v ≡ false)
    → count_to test (n + more) ≡ count_to test n
count-more test n zero none = let same : n + 0 ≡ n = omega arith in ap (count_to test) same
count-more test n (suc more) none =
    let at : n + suc more ≡ suc (n + more) = omega arith in
    let rest = count-more test n more none in
    let last = ap bit (none (suc (n + more)) (omega arith)) in
    omega (arith, ap (count_to test) at, rest, last)

-- none passes
count-none : (test : ℕ → Bool) (n : ℕ) → ((v : ℕ) → test v ≡ false) → count_to test n ≡ 0
count-none test zero none = refl
count-none test (suc n) none = let rest = count-none test n none in omega (arith, rest, ap bit (none (suc n)))

zeros-behind : (counts : List ℕ) (k i : ℕ)
    → slice_index_or (counts ++ replicate k 0) i 0 ≡ slice_index_or counts i 0
zeros-behind [] zero i = refl
zeros-behind [] (suc k) zero = refl
zeros-behind [] (suc k) (suc i) = zeros-behind [] k i
zeros-behind (count ∷ counts) k zero = refl
zeros-behind (count ∷ counts) k (suc i) = zeros-behind counts k i

pub grown-are-counted : GrownAreCounted
grown-are-counted blocks n more segments at counts numbers inside counted = record {
  each = λ segment low. zeros-behind counts (segments - length counts) segment ∙ by segment;
}
  where
    by : (segment : ℕ) → slice_index_or counts segment 0 ≡ count_in blocks (n + more) at segment
    by segment = elim (cases_lt segment (length counts)) [
      | inl low ↦ counted.each segment low
          ∙ sym (count-more (λ v. lies_in blocks segment (at v)) n more
          (λ v high. ap (lies_in blocks segment) (numbers v high)))
      | inr high ↦ get_or_past counts segment 0 high
          ∙ sym (count-none (λ v. lies_in blocks segment (at v)) (n + more) (λ v. inside v segment high))
    ]
