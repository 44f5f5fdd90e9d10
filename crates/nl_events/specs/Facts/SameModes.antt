-- A change to the mode that a checkpoint has changes nothing.
use Rattle.std.proofs.Common.{◌≡◌, ◌≢◌, ℕ, Bool, true, false, cond, eqb, map, List, [], ◌∷◌, Option, Some, refl, ap, sym, ◌∙◌, true≢false, arith}
use Rattle.std.specs.List.{AllByRecursion}
use Rattle.std.specs.Option.{option_map_or}
use Rattle.std.proofs.lemmas.Bool.{eqb-false, eqb-true, eq-eqb, ne_eqb}
use Rattle.nl_types.specs.declared.event.Mode.{Mode}
use Rattle.nl_types.specs.declared.event.Mode.TheVariants.{Plain, Snapshot}
use Rattle.nl_cpfile.specs.Tables.{IsRising, IsTable, Precedes, Table, kept_at, moded, with_mode}
use Rattle.nl_cpfile.specs.declared.checkpoint.Checkpoint.{Checkpoint}
use Rattle.nl_cpfile.specs.Facts.Found.{earlier-IsRising, eq_by_cmp-nat_cmp, found, found-push, kept-last, moded-here}
use Rattle.nl_cpfile.specs.Facts.Rising.{same_table}
use Rattle.nl_commit.specs.Notes.{has_other_mode, is_other_mode}

same-mode : (old new : Mode) → is_other_mode old new ≡ false → old ≡ new
same-mode Plain Plain same = refl
same-mode Plain Snapshot same = absurd (true≢false same)
same-mode Snapshot Plain same = absurd (true≢false same)
same-mode Snapshot Snapshot same = refl

module _ (n : ℕ) (mode : Mode) where
  both : {a b : Checkpoint} {xs ys : List Checkpoint} → a ≡ b → xs ≡ ys → a ∷ xs ≡ b ∷ ys
  both p q = cc

  -- one that has the mode, and one of another number
  moded-had : (c : Checkpoint) → c.number ≡ n → c.mode ≡ mode → moded n mode c ≡ c
  moded-had c here has =
      moded-here n mode c here
      ∙ ap (λ (m : Mode). (let d : Checkpoint = record c { mode = m } in d)) (sym has)

  moded-other : (c : Checkpoint) → c.number ≢ n → moded n mode c ≡ c
  moded-other c apart =
      ap (λ b. (let d : Checkpoint = cond b (record c { mode = mode }) c in d)) (ne_eqb c.number n apart)

  -- those behind the one of the number
  moded-behind : (c : Checkpoint) (kept : List Checkpoint) → c.number ≡ n → AllByRecursion (Precedes c) kept
      → map (moded n mode) kept ≡ kept
  moded-behind c [] here rising = refl
  moded-behind c (k ∷ kept) here rising =
      let low = rising.0.number in
      both (moded-other k (λ same. absurd (omega (arith, low, here, same))))
      (moded-behind c kept here rising.1)

  abbrev HasMode : List Checkpoint → Type 0
  HasMode kept = (c : Checkpoint) → found n kept ≡ Some c → c.mode ≡ mode

  moded-same_list : (kept : List Checkpoint) → IsRising kept → HasMode kept → map (moded n mode) kept ≡ kept
  moded-same_list [] rising has = refl
  moded-same_list (c ∷ kept) rising has =
      by (eqb c.number n) refl (λ later. moded-same_list kept rising.1 later)
    where
      by : (b : Bool) → eqb c.number n ≡ b → (HasMode kept → map (moded n mode) kept ≡ kept)
          → map (moded n mode) (c ∷ kept) ≡ c ∷ kept
      by true is rest =
          let here = eqb-true c.number n is in
          let first : found n (c ∷ kept) ≡ Some c =
          ap (λ b. cond b (Some c) (found n kept)) (eq_by_cmp-nat_cmp n c.number ∙ eq-eqb c.number n here) in
          both (moded-had c here (has c first)) (moded-behind c kept here rising.0)
      by false is rest =
          let apart = eqb-false c.number n is in
          let later : found n (c ∷ kept) ≡ found n kept =
          ap (λ b. cond b (Some c) (found n kept)) (eq_by_cmp-nat_cmp n c.number ∙ ne_eqb c.number n apart) in
          both (moded-other c apart) (rest (λ d at. has d (later ∙ at)))

  module _ (t : Table) (table : IsTable t)
      (has : (c : Checkpoint) → kept_at n t ≡ Some c → c.mode ≡ mode) where
    latest-same : moded n mode t.latest ≡ t.latest
    latest-same = by (eqb t.latest.number n) refl
      where
        by : (b : Bool) → eqb t.latest.number n ≡ b → moded n mode t.latest ≡ t.latest
        by true is =
            moded-had t.latest (eqb-true t.latest.number n is) (has t.latest (kept-last t table n is))
        by false is = moded-other t.latest (eqb-false t.latest.number n is)

    with_mode-same : with_mode n mode t ≡ t
    with_mode-same =
        same_table
        (moded-same_list t.earlier (earlier-IsRising t table n t.earlier refl)
        (λ c at. has c (sym (found-push n t.earlier t.latest (Some c) at))))
        latest-same

  -- no checkpoint is kept under the number in another mode, so the table stays
  pub no-other_mode : (t : Table) → IsTable t → has_other_mode n mode t ≡ false → with_mode n mode t ≡ t
  no-other_mode t table none =
      with_mode-same t table (λ c at. same-mode c.mode mode
      (ap (λ (o : Option Checkpoint). option_map_or (λ (k : Checkpoint). is_other_mode k.mode mode) o false)
      (sym at)
      ∙ none))
