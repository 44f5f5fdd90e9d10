-- The numbers of the kept checkpoints, as lists: what a removal leaves of them.
use Rattle.std.proofs.Common.{◌≡◌, ℕ, zero, suc, ◌-◌, ◌<◌, ◌≤◌, Bool, true, false, cond, eqb, not, List, [], ◌∷◌, length, get_or, Some, inl, inr, ◌⊎◌, refl, ap, sym, ◌∙◌, arith}
use Rattle.std.specs.Prelude.{◌||◌}
use Rattle.std.specs.List.{AllPairs}
use Rattle.std.specs.Cmp.{unsigned_tied}
use Rattle.std.proofs.lemmas.Bool.{cases_Bool, cases_lt, eqb-true, or_left, or_right}
use Rattle.nl_types.specs.Plain.NumberLists.{is_one_of}
use Rattle.nl_cpfile.specs.Tables.{kept_numbers}
use Rattle.nl_cpfile.specs.declared.checkpoint.Checkpoint.{Checkpoint}
use Rattle.nl_cpfile.specs.Facts.Found.{found}
use Rattle.nl_events.specs.NeededBlocks.{IsSpanOf}
use Rattle.nl_events.specs.Facts.TableChanges.{left}

-- ---- found and told

-- under each number that is told there is a checkpoint
pub among-found : (n : ℕ) (kept : List Checkpoint) → is_one_of (kept_numbers kept) n ≡ true
    → (c : Checkpoint) × (found n kept ≡ Some c)
among-found n [] among = cc
among-found n (k ∷ kept) among = elim (cases_Bool (eqb n k.number)) [
  | inl here ↦ (k, ap (λ b. cond b (Some k) (found n kept)) (unsigned_tied n k.number ∙ here))
  | inr other ↦
      let rest = among-found n kept (sym (ap (λ b. b || is_one_of (kept_numbers kept) n) other) ∙ among) in
      (rest.0, ap (λ b. cond b (Some k) (found n kept)) (unsigned_tied n k.number ∙ other) ∙ rest.1)
]

-- ---- some are gone

-- what is left was there
pub left-was : (gone : List ℕ) (n : ℕ) (kept : List Checkpoint)
    → is_one_of (kept_numbers (left gone kept)) n ≡ true → is_one_of (kept_numbers kept) n ≡ true
left-was gone n [] among = cc
left-was gone n (c ∷ kept) among = by (is_one_of gone c.number) (λ is. left-was gone n kept is) among
  where
    by : (b : Bool)
        → (is_one_of (kept_numbers (left gone kept)) n ≡ true → is_one_of (kept_numbers kept) n ≡ true)
        → is_one_of (kept_numbers (cond (not b) (c ∷ left gone kept) (left gone kept))) n ≡ true
        → is_one_of (kept_numbers (c ∷ kept)) n ≡ true
    by true rest is = or_right (eqb n c.number) (is_one_of (kept_numbers kept) n) (rest is)
    by false rest is = elim (cases_Bool (eqb n c.number)) [
      | inl here ↦ or_left (eqb n c.number) (is_one_of (kept_numbers kept) n) here
      | inr other ↦ or_right (eqb n c.number) (is_one_of (kept_numbers kept) n)
          (rest (sym (ap (λ b. b || is_one_of (kept_numbers (left gone kept)) n) other) ∙ is))
    ]

-- it is left, or one of those that are gone
abbrev LeftOrGone : List ℕ → ℕ → List Checkpoint → Type 0
LeftOrGone gone n some = (is_one_of (kept_numbers some) n ≡ true) ⊎ (is_one_of gone n ≡ true)

-- so is each that was there
pub left-or-gone : (gone : List ℕ) (n : ℕ) (kept : List Checkpoint) → is_one_of (kept_numbers kept) n ≡ true
    → LeftOrGone gone n (left gone kept)
left-or-gone gone n [] among = cc
left-or-gone gone n (c ∷ kept) among =
    by (is_one_of gone c.number) refl (cases_Bool (eqb n c.number))
    (λ other. left-or-gone gone n kept (sym (ap (λ b. b || is_one_of (kept_numbers kept) n) other) ∙ among))
  where
    by : (b : Bool) → is_one_of gone c.number ≡ b → (eqb n c.number ≡ true) ⊎ (eqb n c.number ≡ false)
        → (eqb n c.number ≡ false → LeftOrGone gone n (left gone kept))
        → LeftOrGone gone n (cond (not b) (c ∷ left gone kept) (left gone kept))
    by true goes (inl here) rest = inr (ap (is_one_of gone) (eqb-true n c.number here) ∙ goes)
    by true goes (inr other) rest = rest other
    by false stays (inl here) rest =
        inl (or_left (eqb n c.number) (is_one_of (kept_numbers (left gone kept)) n) here)
    by false stays (inr other) rest = elim (rest other) [
      | inl there ↦ inl (or_right (eqb n c.number) (is_one_of (kept_numbers (left gone kept)) n) there)
      | inr goes ↦ inr goes
    ]

-- ---- between the first and the last of them

place-of : (gone : List ℕ) (n : ℕ) → is_one_of gone n ≡ true
    → (k : ℕ) × (k < length gone) × ((d : ℕ) → get_or gone k d ≡ n)
place-of [] n among = cc
place-of (m ∷ gone) n among = elim (cases_Bool (eqb n m)) [
  | inl here ↦ (0, omega arith, λ d. sym (eqb-true n m here))
  | inr other ↦
      let rest = place-of gone n (sym (ap (λ b. b || is_one_of gone n) other) ∙ among) in
      (suc rest.0, omega (arith, rest.1), rest.2)
]

-- of numbers that ascend each lies there
pub in-span : (first last : ℕ) (gone : List ℕ) → AllPairs ◌<◌ gone → IsSpanOf first last gone → (n : ℕ)
    → is_one_of gone n ≡ true → (first ≤ n) × (n ≤ last)
in-span first last gone rising span n among =
    let (k, within, at) = place-of gone n among in (low k within (at 0), high k within (at 0))
  where
    low : (k : ℕ) → k < length gone → get_or gone k 0 ≡ n → first ≤ n
    low zero within at = omega (arith, span.first_is, at)
    low (suc k) within at =
        let rises = rising 0 (suc k) 0 (omega arith) within in omega (arith, rises, span.first_is, at)

    high : (k : ℕ) → k < length gone → get_or gone k 0 ≡ n → n ≤ last
    high k within at = elim (cases_lt k (length gone - 1)) [
      | inl before ↦
          let rises = rising k (length gone - 1) 0 before (omega (arith, within)) in
          omega (arith, rises, span.last_is, at)
      | inr past ↦
          let here : k ≡ length gone - 1 = omega (arith, within, past) in
          let same = ap (λ (i : ℕ). get_or gone i 0) here in
          omega (arith, same, span.last_is, at)
    ]
