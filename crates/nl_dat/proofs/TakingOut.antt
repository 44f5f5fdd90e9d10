-- Numbers taken out of use, one block of a row after another.
use Rattle.std.proofs.Common.{◌≡◌, ◌≢◌, ℕ, ◌+◌, ◌≤◌, true, false, cond, eqb, List, ◌∷◌, Some, None, Option, inl, inr, sym, refl, ap, subst, ◌∙◌, length, set, arith}
use Rattle.std.specs.Prelude.{◌||◌, nat_le}
use Rattle.std.specs.Option.{option_map}
use Rattle.std.proofs.lemmas.Bool.{cases_Bool, cases_eq, cases_lt, eqb-true, eq-eqb, ne_eqb, or_cases, leb-true}
use Rattle.std.proofs.lemmas.Bool.Decides.{nat_tests}
use Rattle.std.proofs.lemmas.List.{get_or-set_same, get_or-set_other, get_or_past, length-set}
use Rattle.nl_types.specs.Plain.NumberLists.{is_one_of}
use Rattle.nl_dat.specs.declared.entries.DatEntry.{DatEntry}
use Rattle.nl_dat.specs.declared.reclaim.TakenOut.{TakenOut}
use Rattle.nl_dat.specs.Table.{entry_in, addresses_of, block_of}
use Rattle.nl_dat.specs.TakenOut.{HaveOwnBlocks, HasNone, HasTakenOne, HasTakenOut, is_in_row, lesser, one_more, IsAtMost}

-- ---- rows

row-other : (first count : ℕ) (o : Option ℕ) → o ≢ Some (first + count)
    → is_in_row first (count + 1) o ≡ is_in_row first count o
row-other first count None other = refl
row-other first count (Some b) other = elim (cases_eq b (first + count)) [
  | inl e ↦ absurd (other (ap Some e))
  | inr n ↦ grind (arith, nat_tests)
]

row-last : (first count : ℕ) → is_in_row first (count + 1) (Some (first + count)) ≡ true
row-last first count = grind (arith, nat_tests)

row-not_yet : (first count : ℕ) → is_in_row first count (Some (first + count)) ≡ false
row-not_yet first count = grind (arith, nat_tests)

-- ---- the least number

at_most-lesser : (o : Option ℕ) (v w : ℕ) → IsAtMost o w → IsAtMost (Some (lesser o v)) w
at_most-lesser None v w h = absurd h
at_most-lesser (Some l) v w h = elim (cases_Bool (nat_le l v)) [
  | inl e ↦ subst (λ n. n ≤ w) (sym (ap (λ b. cond b l v) e)) h
  | inr e ↦ subst (λ n. n ≤ w) (sym (ap (λ b. cond b l v) e)) (omega (arith, h, below l v e))
]
  where
    below : (a b : ℕ) → nat_le a b ≡ false → b ≤ a
    below a b e = elim (cases_lt a b) [
      | inl h ↦ grind (arith, nat_tests)
      | inr h ↦ h
    ]

at_most-own : (o : Option ℕ) (v : ℕ) → IsAtMost (Some (lesser o v)) v
at_most-own None v = omega arith
at_most-own (Some l) v = elim (cases_Bool (nat_le l v)) [
  | inl e ↦ subst (λ n. n ≤ v) (sym (ap (λ b. cond b l v) e)) (leb-true l v e)
  | inr e ↦ subst (λ n. n ≤ v) (sym (ap (λ b. cond b l v) e)) (omega arith)
]

-- ---- one block more

module _ (first count : ℕ) (old mid new : List (Option DatEntry)) (taken : TakenOut)
    (before : HasTakenOut first count old mid taken) where
  -- a number that is left has what it had
  still : (v b : ℕ) → addresses_of (entry_in mid) v ≡ Some b
      → (addresses_of (entry_in old) v ≡ Some b)
      × (is_in_row first count (addresses_of (entry_in old) v) ≡ false)
  still v b at = elim (cases_Bool (is_in_row first count (addresses_of (entry_in old) v))) [
    | inl e ↦
        let none : addresses_of (entry_in mid) v ≡ None =
        ap (option_map block_of) (before.left v ∙ ap (λ t. cond t None (entry_in old v)) e) in
        absurd (none_some (sym none ∙ at))
    | inr e ↦
        (sym (ap (option_map block_of) (before.left v ∙ ap (λ t. cond t None (entry_in old v)) e)) ∙ at, e)
  ]
    where
      none_some : None ≡ Some b → ⊥
      none_some h = cc

  -- a block that stands behind the row so far is a number's then as before
  address-kept : (v : ℕ) → addresses_of (entry_in old) v ≡ Some (first + count)
      → addresses_of (entry_in mid) v ≡ Some (first + count)
  address-kept v at =
      ap (option_map block_of)
      (before.left v
      ∙ ap (λ t. cond t None (entry_in old v)) (ap (is_in_row first count) at ∙ row-not_yet first count))
      ∙ at

  pub none-more : HasNone (first + count) mid new → HasTakenOut first (count + 1) old new taken
  none-more h = record {
    size = ap length h.same ∙ before.size;
    left = λ v.
        ap (λ t. entry_in t v) h.same ∙ before.left v
        ∙ ap (λ t. cond t None (entry_in old v)) (sym (other v));
    gone = before.gone;
    each_once = before.each_once;
    gone_are = λ v. before.gone_are v ∙ sym (other v);
    counted = before.counted;
    few = omega (arith, before.few);
    least = before.least;
  }
    where
      other : (v : ℕ)
          → is_in_row first (count + 1) (addresses_of (entry_in old) v)
          ≡ is_in_row first count (addresses_of (entry_in old) v)
      other v = row-other first count (addresses_of (entry_in old) v) (λ at. h.none v (address-kept v at))

  pub one-more : (n : ℕ) → HaveOwnBlocks (addresses_of (entry_in old)) → HasTakenOne (first + count) mid new n
      → HasTakenOut first (count + 1) old new (one_more taken n)
  one-more n apart h = record {
    size = ap length h.taken ∙ length-set mid n None ∙ before.size;
    left = λ v. elim (cases_eq v n) [
      | inl e ↦
          ap (λ t. entry_in t v) h.taken ∙ ap (entry_in (set mid n None)) e ∙ gone_now
          ∙ sym (ap (λ t. cond t None (entry_in old v))
          (ap (λ k. is_in_row first (count + 1) (addresses_of (entry_in old) k)) e ∙ last))
      | inr e ↦
          ap (λ t. entry_in t v) h.taken ∙ get_or-set_other mid n v None None e ∙ before.left v
          ∙ ap (λ t. cond t None (entry_in old v)) (sym (others v e))
    ];
    gone = n ∷ before.gone;
    each_once = (before.gone_are n ∙ not_yet, before.each_once);
    gone_are = λ v. elim (cases_eq v n) [
      | inl e ↦
          ap (λ t. t || is_one_of before.gone v) (eq-eqb v n e)
          ∙ sym (ap (λ k. is_in_row first (count + 1) (addresses_of (entry_in old) k)) e ∙ last)
      | inr e ↦ ap (λ t. t || is_one_of before.gone v) (ne_eqb v n e) ∙ before.gone_are v ∙ sym (others v e)
    ];
    counted = ap (λ k. k + 1) before.counted ∙ omega arith;
    few = omega (arith, before.few);
    least = λ v h'. elim (or_cases (eqb v n) (is_one_of before.gone v) h') [
      | inl e ↦
          subst (λ w. IsAtMost (Some (lesser taken.least n)) w) (sym (eqb-true v n e))
          (at_most-own taken.least n)
      | inr e ↦ at_most-lesser taken.least n v (before.least v e)
    ];
  }
    where
      there : addresses_of (entry_in old) n ≡ Some (first + count)
      there = (still n (first + count) h.there).0

      last : is_in_row first (count + 1) (addresses_of (entry_in old) n) ≡ true
      last = ap (is_in_row first (count + 1)) there ∙ row-last first count

      not_yet : is_in_row first count (addresses_of (entry_in old) n) ≡ false
      not_yet = (still n (first + count) h.there).1

      others : (v : ℕ) → v ≢ n
          → is_in_row first (count + 1) (addresses_of (entry_in old) v)
          ≡ is_in_row first count (addresses_of (entry_in old) v)
      others v other =
          row-other first count (addresses_of (entry_in old) v)
          (λ at. other (apart v n (first + count) at there))

      size_now : length (set mid n None) ≡ length mid
      size_now = length-set mid n None

      gone_now : entry_in (set mid n None) n ≡ None
      gone_now = elim (cases_lt n (length mid)) [
        | inl low ↦ get_or-set_same mid n None None low
        | inr high ↦ get_or_past (set mid n None) n None (omega (arith, high, size_now))
      ]
