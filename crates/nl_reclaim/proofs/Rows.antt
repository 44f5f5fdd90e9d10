-- Rows of blocks that grow at their end.
use Rattle.std.proofs.Common.{◌≡◌, ◌≤◌, ◌<◌, ℕ, ◌+◌, true, false, cond, List, [], ◌++◌, Option, inl, inr, sym, refl, ap, ◌∙◌, length, take, length-append, length-take, arith}
use Rattle.std.specs.Prelude.{nat_lt}
use Rattle.std.proofs.lemmas.Bool.{cases_lt}
use Rattle.std.proofs.lemmas.Bool.Decides.{nat_tests}
use Rattle.std.proofs.lemmas.List.{take_all, take-append-le}
use Rattle.nl_vstore.specs.Located.{AreCounted, onto, picked}
use Rattle.nl_vstore.specs.Facts.CountedRows.{counted-next, length-onto, row-grows}
use Rattle.nl_reclaim.specs.Private.Loops.{AreSeen}

pub counted-none : (f : ℕ → Option ℕ) (b : ℕ) → AreCounted f b 0 0
counted-none f b = record { counts = refl; few = omega arith }

take-grows : (limit : ℕ) (xs : List ℕ) (o : Option ℕ)
    → cond (nat_lt (length xs) limit) (take limit xs ++ onto o []) (take limit xs)
    ≡ take limit (xs ++ onto o [])
take-grows limit xs o = elim (cases_lt (length xs) limit) [
  | inl h ↦
      ap (λ t. cond t (take limit xs ++ onto o []) (take limit xs)) (below h)
      ∙ ap (λ ys. ys ++ onto o []) (take_all limit xs (omega (arith, h)))
      ∙ sym (take_all limit (xs ++ onto o []) (omega (arith, h, length-onto o, length-append xs (onto o []))))
  | inr h ↦
      ap (λ t. cond t (take limit xs ++ onto o []) (take limit xs)) (above h)
      ∙ sym (take-append-le limit xs (onto o []) h)
]
  where
    below : length xs < limit → nat_lt (length xs) limit ≡ true
    below h = grind (arith, nat_tests)

    above : limit ≤ length xs → nat_lt (length xs) limit ≡ false
    above h = grind (arith, nat_tests)

pub seen-next : (f : ℕ → Option ℕ) (b limit position count next : ℕ) (first more : List ℕ) (found : Option ℕ)
    → AreSeen f b limit position count first → found ≡ f (b + position)
    → next ≡ count + length (onto found [])
    → more ≡ cond (nat_lt count limit) (first ++ onto found []) first
    → AreSeen f b limit (position + 1) next more
seen-next f b limit position count next first more found seen is sum put = record {
  counted = counted-next f b position count next found seen.counted is sum;
  front = put ∙ ap (λ (xs : List ℕ). cond (nat_lt count limit) (xs ++ onto found []) xs) seen.front
      ∙ ap (λ (k : ℕ).
      cond (nat_lt k limit) (take limit (picked f b position) ++ onto found [])
      (take limit (picked f b position)))
      seen.counted.counts
      ∙ take-grows limit (picked f b position) found
      ∙ ap (λ (o : Option ℕ). take limit (picked f b position ++ onto o [])) is
      ∙ ap (take limit) (sym (row-grows f b position));
}

pub seen-few : (f : ℕ → Option ℕ) (b limit position count : ℕ) (first : List ℕ)
    → AreSeen f b limit position count first → length first ≤ count
seen-few f b limit position count first seen =
    omega (arith, ap length seen.front, length-take limit (picked f b position), seen.counted.counts)
