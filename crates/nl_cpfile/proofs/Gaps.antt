-- Lists whose first places are out of use.
use Rattle.std.proofs.Common.{◌≡◌, ℕ, ◌+◌, ◌<◌, ◌-◌, suc, List, ◌++◌, length, take, drop, sym, ap, ◌∙◌, arith, append_assoc, length-take-le}
use Rattle.std.specs.List.{copy_within, remove}
use Rattle.std.proofs.lemmas.List.{drop-append-le, drop-drop, drop-take, drop_at}

module _ {X : Type 0} where
  -- those before a place move up by one, over what stood there
  pub moved_up : (places : List X) (gone index : ℕ) → gone + index < length places
      → drop (gone + 1) (copy_within places gone (gone + index) (gone + 1)) ≡ remove (drop gone places) index
  moved_up places gone index within =
      let front = take (gone + 1) places in
      let count : gone + index - gone ≡ index = omega arith in
      let place : gone + 1 + index ≡ gone + suc index = omega arith in
      ap (λ n. drop (gone + 1) (front ++ take n (drop gone places) ++ drop (gone + 1 + n) places)) count
      ∙ ap (drop (gone + 1))
      (append_assoc front (take index (drop gone places)) (drop (gone + 1 + index) places))
      ∙ drop_at front (take index (drop gone places) ++ drop (gone + 1 + index) places) (gone + 1)
      (length-take-le (gone + 1) places (omega arith))
      ∙ ap (λ n. take index (drop gone places) ++ drop n places) place
      ∙ ap (λ xs. take index (drop gone places) ++ xs) (sym (drop-drop (suc index) gone places))

  -- those behind a place move down by one
  pub moved_down : (places : List X) (gone index : ℕ) → gone + index < length places
      → drop gone (remove places (gone + index)) ≡ remove (drop gone places) index
  moved_down places gone index within =
      let place : suc (gone + index) ≡ gone + suc index = omega arith in
      drop-append-le gone (take (gone + index) places) (drop (suc (gone + index)) places)
      (omega (arith, length-take-le (gone + index) places (omega arith)))
      ∙ ap (λ xs. xs ++ drop (suc (gone + index)) places) (drop-take gone index places)
      ∙ ap (λ n. take index (drop gone places) ++ drop n places) place
      ∙ ap (λ xs. take index (drop gone places) ++ xs) (sym (drop-drop (suc index) gone places))
