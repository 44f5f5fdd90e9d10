-- Values in a row, and one more behind them.
use Rattle.std.proofs.Common.{◌≡◌, ◌≢◌, ℕ, zero, suc, ◌+◌, ◌<◌, ◌≤◌, List, [], ◌∷◌, ◌++◌, length, ap, ◌∙◌, sym, arith, below_more, Option, Some, add-zero}
use Rattle.std.proofs.Common.{inl, inr}
use Rattle.std.proofs.lemmas.Bool.{cases_eq}
use Rattle.std.specs.Prelude.{slice_get}
use Rattle.nl_types.specs.Blocks.Placing.{blocks_from}
use Rattle.nl_types.specs.Blocks.PartialMaps.{Stands}
use Rattle.nl_vstore.specs.Content.{SameOutside, StandInRow}

module _ {V : Type 0} where
  -- a put at the next number leaves what is outside one more number as it was
  pub keeps_put : (first tried : ℕ) (old mid new : ℕ → Option V) → SameOutside first tried old mid
      → ((b : ℕ) → b ≢ first + tried → new b ≡ mid b) → SameOutside first (tried + 1) old new
  keeps_put first tried old mid new keeps others = record {
    below = λ number h.
        let apart : number ≢ first + tried = omega arith in others number apart ∙ keeps.below number h;
    above = λ number h.
        let apart : number ≢ first + tried = omega arith in
        others number apart ∙ keeps.above number (omega arith);
  }

  -- the values before the next number stand as before, and one stands there
  pub stand_put : (first tried : ℕ) (mid new : ℕ → Option V) (values : List V)
      → ((b : ℕ) → b ≢ first + tried → new b ≡ mid b) → new (first + tried) ≡ slice_get values tried
      → ((j : ℕ) → j < tried → mid (first + j) ≡ slice_get values j) → (j : ℕ) → j < tried + 1
      → new (first + j) ≡ slice_get values j
  stand_put first tried mid new values others there stand =
      below_more (λ j. new (first + j) ≡ slice_get values j) tried
      (λ j h. let apart : first + j ≢ first + tried = omega arith in others (first + j) apart ∙ stand j h)
      there

  -- the first of what is left is the value at the next number
  pub value_next : (values left rest : List V) (value : V) (tried : ℕ) → left ≡ value ∷ rest
      → ((j : ℕ) → slice_get left j ≡ slice_get values (tried + j)) → Some value ≡ slice_get values tried
  value_next values left rest value tried first same =
      let here : tried + 0 ≡ tried = omega arith in
      ap (λ xs. slice_get xs 0) (sym first) ∙ same 0 ∙ ap (λ k. slice_get values k) here

  -- what is left behind the first of what was left
  pub rest_behind : (values left rest : List V) (value : V) (tried : ℕ) → left ≡ value ∷ rest
      → ((j : ℕ) → slice_get left j ≡ slice_get values (tried + j))
      → (j : ℕ) → slice_get rest j ≡ slice_get values (tried + 1 + j)
  rest_behind values left rest value tried first same j =
      let behind : tried + suc j ≡ tried + 1 + j = omega arith in
      ap (λ xs. slice_get xs (suc j)) (sym first) ∙ same (suc j) ∙ ap (λ k. slice_get values k) behind

  -- a row of values stands at a row of numbers
  pub stand_row : (b n : ℕ) (values : List V) (f : ℕ → Option V) → length values ≡ n → StandInRow b values f
      → Stands f (blocks_from b n) values
  stand_row b zero [] f e stands = tt
  stand_row b zero (v ∷ vs) f e stands = absurd (omega (arith, e))
  stand_row b (suc n) [] f e stands = absurd (omega (arith, e))
  stand_row b (suc n) (v ∷ vs) f e stands = (
    ap f (sym (add-zero b)) ∙ stands 0 (omega arith),
    stand_row (suc b) n vs f (omega (arith, e))
        (λ j h. let at : suc b + j ≡ b + suc j = omega arith in ap f at ∙ stands (suc j) (omega (arith, h))),
  )

  pub stand-append : (a b : List ℕ) (vs ws : List V) (f : ℕ → Option V) → Stands f a vs → Stands f b ws
      → Stands f (a ++ b) (vs ++ ws)
  stand-append [] b [] ws f h k = k
  stand-append [] b (v ∷ vs) ws f h k = absurd h
  stand-append (x ∷ a) b [] ws f h k = absurd h
  stand-append (x ∷ a) b (v ∷ vs) ws f h k = (h.0, stand-append a b vs ws f h.1 k)

-- a row of numbers, with one more
pub row_of-more : (b n : ℕ) → blocks_from b (n + 1) ≡ blocks_from b n ++ (b + n) ∷ []
row_of-more b zero = ap (λ (x : ℕ). x ∷ []) (sym (add-zero b))
row_of-more b (suc n) =
    let e : suc n + 1 ≡ suc (n + 1) = omega arith in
    let f : suc b + n ≡ b + suc n = omega arith in
    ap (blocks_from b) e
    ∙ ap (λ (xs : List ℕ). b ∷ xs) (row_of-more (suc b) n ∙ ap (λ (x : ℕ). blocks_from (suc b) n ++ x ∷ []) f)

-- one more value put into a row, behind those that stand
module _ {V : Type 0} where
  pub stand_one : (first number : ℕ) (mid new : ℕ → Option V) (values rest : List V) (value : V)
      → first ≤ number → ((b : ℕ) → b ≢ number → new b ≡ mid b) → new number ≡ Some value
      → ((j : ℕ) → first + j < number → mid (first + j) ≡ slice_get values j)
      → ((j k : ℕ) → first + j ≡ number + k → slice_get (value ∷ rest) k ≡ slice_get values j)
      → (j : ℕ) → first + j < number + 1 → new (first + j) ≡ slice_get values j
  stand_one first number mid new values rest value low others there stand left j h =
      elim (cases_eq (first + j) number) [
        | inl e ↦ (let at : first + j ≡ number + 0 = omega (arith, e) in ap new e ∙ there ∙ left j 0 at)
        | inr apart ↦ others (first + j) apart ∙ stand j (let far = apart in omega (arith, h, far))
      ]

  pub others_one : (first count number : ℕ) (old mid new : ℕ → Option V) → first ≤ number
      → number < first + count → ((b : ℕ) → b ≢ number → new b ≡ mid b) → SameOutside first count old mid
      → SameOutside first count old new
  others_one first count number old mid new low high others same = record {
    below = λ b h. let apart : b ≢ number = omega arith in others b apart ∙ same.below b h;
    above = λ b h. let apart : b ≢ number = omega arith in others b apart ∙ same.above b h;
  }
