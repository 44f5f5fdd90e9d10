-- Rows of blocks that grow at their end.
use Rattle.std.proofs.Common.{◌≡◌, ◌≤◌, ℕ, zero, suc, ◌+◌, List, [], ◌++◌, Option, Some, None, sym, refl, ap, ◌∙◌, length, length-append, arith}
use Rattle.std.specs.Prelude.{slice_index_or}
use Rattle.nl_vstore.specs.Content.{Payload}
use Rattle.nl_vstore.specs.Located.{AreCounted, block_if, in_row, onto, picked}

onto-append : (o : Option ℕ) (xs ys : List ℕ) → onto o (xs ++ ys) ≡ onto o xs ++ ys
onto-append None xs ys = refl
onto-append (Some v) xs ys = refl

grows : (f : ℕ → Option ℕ) (b n : ℕ) → picked f b (suc n) ≡ picked f b n ++ onto (f (b + n)) []
grows f b zero = let here : b ≡ b + 0 = omega arith in ap (λ (c : ℕ). onto (f c) []) here
grows f b (suc n) =
    let next : suc b + n ≡ b + suc n = omega arith in
    ap (onto (f b)) (grows f (suc b) n) ∙ onto-append (f b) (picked f (suc b) n) (onto (f (suc b + n)) [])
    ∙ ap (λ (c : ℕ). onto (f b) (picked f (suc b) n) ++ onto (f c) []) next

pub row-grows : (f : ℕ → Option ℕ) (b n : ℕ) → picked f b (n + 1) ≡ picked f b n ++ onto (f (b + n)) []
row-grows f b n = let next : n + 1 ≡ suc n = omega arith in ap (picked f b) next ∙ grows f b n

pub length-onto : (o : Option ℕ) → length (onto o []) ≤ 1
length-onto None = omega arith
length-onto (Some v) = omega arith

pub counted-next : (f : ℕ → Option ℕ) (b position count next : ℕ) (found : Option ℕ)
    → AreCounted f b position count → found ≡ f (b + position) → next ≡ count + length (onto found [])
    → AreCounted f b (position + 1) next
counted-next f b position count next found seen is more =
    let one : length (onto (f (b + position)) []) ≡ length (onto found []) =
    ap (λ (o : Option ℕ). length (onto o [])) (sym is) in
    let sum : length (picked f b (position + 1))
    ≡ length (picked f b position) + length (onto (f (b + position)) []) =
    ap length (row-grows f b position)
    ∙ length-append (picked f b position) (onto (f (b + position)) []) in
    record {
      counts = omega (arith, sum, one, more, seen.counts);
      few = omega (arith, more, seen.few, length-onto found);
    }

pub row-next : (row : List (Option Payload)) (position count next : ℕ)
    → AreCounted (in_row row) 0 position count
    → next ≡ count + length (onto (block_if position (slice_index_or row position None)) [])
    → AreCounted (in_row row) 0 (position + 1) next
row-next row position count next seen more =
    let same : position ≡ 0 + position = omega arith in
    counted-next (in_row row) 0 position count next (in_row row position) seen (ap (in_row row) same) more
