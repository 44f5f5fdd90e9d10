-- The change of a number, in changes that ascend.
use Rattle.std.proofs.Common.{◌≡◌, ℕ, suc, zero, ◌<◌, ◌≤◌, ◌≢◌, true, false, cond, eqb, ltb, List, [], ◌∷◌, length, get_or, Option, Some, None, refl, sym, ap, ◌∙◌, arith, inl, inr}
use Rattle.std.proofs.lemmas.Bool.{cases_Bool, cases_lt, eqb-true, eq-eqb, ltb-true, ltb-false}
use Rattle.std.specs.List.Sorted.{IsNonDecreasingBy, IsPartitionPoint}
use Rattle.std.specs.Option.{option_map_or}
use Rattle.nl_ifile.specs.declared.change.InodeChange.{InodeChange}
use Rattle.nl_ifile.specs.Inodes.{InodeMap}
use Rattle.nl_ifile.specs.Changing.{NumbersAscend, inodes_with}
use Rattle.nl_ifile.specs.Free.{change_at}

-- a number that no change has
pub change_at-none : (changes : List InodeChange) (n : ℕ) (d : InodeChange)
    → ((k : ℕ) → k < length changes → (get_or changes k d).number ≢ n) → change_at changes n ≡ None
change_at-none [] n d none = refl
change_at-none (c ∷ changes) n d none =
    let other : eqb n c.number ≡ false = elim (cases_Bool (eqb n c.number)) [
      | inl e ↦ absurd (none 0 (omega arith) (sym (eqb-true n c.number e)))
      | inr e ↦ e
    ] in
    ap (λ b. cond b (Some c) (change_at changes n)) other
    ∙ change_at-none changes n d (λ k lt. none (suc k) (omega arith))

-- a number of a change, which none before it has
pub change_at-some : (changes : List InodeChange) (n i : ℕ) (d : InodeChange) → i < length changes
    → (get_or changes i d).number ≡ n → ((k : ℕ) → k < i → (get_or changes k d).number ≢ n)
    → change_at changes n ≡ Some (get_or changes i d)
change_at-some [] n i d lt here before = absurd (omega arith)
change_at-some (c ∷ changes) n zero d lt here before =
    ap (λ b. cond b (Some c) (change_at changes n)) (eq-eqb n c.number (sym here))
change_at-some (c ∷ changes) n (suc i) d lt here before =
    let other : eqb n c.number ≡ false = elim (cases_Bool (eqb n c.number)) [
      | inl e ↦ absurd (before 0 (omega arith) (sym (eqb-true n c.number e)))
      | inr e ↦ e
    ] in
    ap (λ b. cond b (Some c) (change_at changes n)) other
    ∙ change_at-some changes n i d (omega arith) here (λ k low. before (suc k) (omega arith))

pub ascending-rise : (changes : List InodeChange) → NumbersAscend changes
    → IsNonDecreasingBy (λ (c : InodeChange). c.number) changes
ascending-rise changes ascending i j d le lt = elim (cases_lt i j) [
  | inl below ↦ omega (arith, ascending i j d below lt)
  | inr above ↦ let same : i ≡ j = omega arith in ap' same
]
  where
    ap' : i ≡ j → (get_or changes i d).number ≤ (get_or changes j d).number
    ap' same = rw same (omega arith)

-- the place where a search for a number ends
abbrev pub IsPlace : List InodeChange → ℕ → ℕ → Type 0
IsPlace changes n i =
    IsPartitionPoint (λ (c : InodeChange). ltb c.number n ≡ true)
    (λ (c : InodeChange). ltb c.number n ≡ false) changes i

-- the change there has the number
pub change_at-here : (changes : List InodeChange) (n i : ℕ) (c : InodeChange) → IsPlace changes n i
    → i < length changes → c ≡ get_or changes i c → c.number ≡ n → Some c ≡ change_at changes n
change_at-here changes n i c place lt is same =
    sym (change_at-some changes n i c lt (ap (λ (x : InodeChange). x.number) (sym is) ∙ same)
    (λ k low.
    λ e. let below = ltb-true _ _ (place.0 k c (omega arith) low) in absurd (omega (arith, below, e)))
    ∙ ap Some (sym is))

-- it has another number, or there is none
pub change_at-not_here : (changes : List InodeChange) (n i : ℕ) (d : InodeChange) → NumbersAscend changes
    → IsPlace changes n i → (i < length changes → (get_or changes i d).number ≢ n)
    → None ≡ change_at changes n
change_at-not_here changes n i d ascending place other = sym (change_at-none changes n d each)
  where
    each : (k : ℕ) → k < length changes → (get_or changes k d).number ≢ n
    each k lt e = elim (cases_lt k i) [
      | inl below ↦ let low = ltb-true _ _ (place.0 k d (omega arith) below) in absurd (omega (arith, low, e))
      | inr above ↦ elim (cases_lt i k) [
        | inl behind ↦
            let high = ltb-false _ _ (place.1 i d (omega arith) (omega arith)) in
            let rises = ascending i k d behind lt in
            absurd (omega (arith, high, rises, e))
        | inr upto ↦
            let same : k ≡ i = omega arith in
            absurd (other (omega arith) (ap (λ (j : ℕ). (get_or changes j d).number) (sym same) ∙ e))
      ]
    ]

-- what changes make of a number hangs on what it was alone
pub inodes_with-at : (changes : List InodeChange) (before : InodeMap) (n : ℕ)
    → inodes_with changes before n
    ≡ option_map_or (λ (c : InodeChange). c.inode) (change_at changes n) (before n)
inodes_with-at [] before n = refl
inodes_with-at (c ∷ changes) before n = elim (cases_Bool (eqb n c.number)) [
  | inl e ↦
      ap (λ b. cond b c.inode (inodes_with changes before n)) e
      ∙ sym (ap
      (λ b. option_map_or (λ (c : InodeChange). c.inode) (cond b (Some c) (change_at changes n)) (before n))
      e)
  | inr e ↦
      ap (λ b. cond b c.inode (inodes_with changes before n)) e
      ∙ (inodes_with-at changes before n
      ∙ sym (ap
      (λ b. option_map_or (λ (c : InodeChange). c.inode) (cond b (Some c) (change_at changes n)) (before n))
      e))
]

-- what has a change is what the change says
pub inodes_with-Some : (changes : List InodeChange) (before : InodeMap) (n : ℕ) (c : InodeChange)
    → Some c ≡ change_at changes n → c.inode ≡ inodes_with changes before n
inodes_with-Some changes before n c is =
    sym (inodes_with-at changes before n
    ∙ ap (λ (o : Option InodeChange). option_map_or (λ (x : InodeChange). x.inode) o (before n)) (sym is))

-- what has none is as before
pub inodes_with-None : (changes : List InodeChange) (before : InodeMap) (n : ℕ) → None ≡ change_at changes n
    → before n ≡ inodes_with changes before n
inodes_with-None changes before n is =
    sym (inodes_with-at changes before n
    ∙ ap (λ (o : Option InodeChange). option_map_or (λ (x : InodeChange). x.inode) o (before n)) (sym is))

-- two maps that agree at a number do so with changes, too
pub inodes_with-same : (changes : List InodeChange) (a b : InodeMap) (n : ℕ) → a n ≡ b n
    → inodes_with changes a n ≡ inodes_with changes b n
inodes_with-same changes a b n same =
    inodes_with-at changes a n
    ∙ (ap (option_map_or (λ (x : InodeChange). x.inode) (change_at changes n)) same
    ∙ sym (inodes_with-at changes b n))
