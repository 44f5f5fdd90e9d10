-- Inodes that are told one after another.
use Rattle.std.proofs.Common.{◌≡◌, ℕ, zero, suc, ◌+◌, ◌*◌, ◌/◌, ◌%◌, ◌<◌, ◌≤◌, Bool, true, false, List, length, Option, Some, None, refl, ap, sym, subst, ◌∙◌, inl, inr, arith}
use Rattle.std.specs.Prelude.{◌&&◌}
use Rattle.std.specs.Option.{option_and_then}
use Rattle.std.proofs.lemmas.Bool.{cases_lt}
use Rattle.nl_types.specs.declared.kind.Kind.{Kind}
use Rattle.nl_types.specs.Blocks.Roots.{Pages, Root, page_at}
use Rattle.nl_layout.specs.declared.inode.Inode.{Inode}
use Rattle.nl_ifile.specs.Inodes.{inode_at, inode_in}
use Rattle.nl_check.specs.Private.SoundInodes.{IsSoundInode, TellsAll, TellsInodes, kind_for, kind_in, kind_told}
use Rattle.nl_check.proofs.SoundOnes.{none-sound}

module _ (pages : Pages) (root : Root) where
  -- one inode more
  pub told-more : (n : ℕ) (inode : Inode) (old new : List (Option Kind)) (before sound : Bool)
      → inode_at pages root n ≡ Some inode → TellsInodes pages root n old before
      → length new ≡ 524288 → (n < 524288 → kind_in new n ≡ kind_for inode.kind)
      → ((i : ℕ) → (i ≡ n → ⊥) → kind_in new i ≡ kind_in old i)
      → (sound ≡ true → IsSoundInode pages n (Some inode))
      → (sound ≡ false → IsSoundInode pages n (Some inode) → ⊥)
      → TellsInodes pages root (n + 1) new (before && sound)
  told-more n inode old new before sound is t count here others when unless = record {
    count = count;
    told = λ i low small. elim (cases_lt i n) [
      | inl less ↦ others i (λ e. omega (arith, e, less)) ∙ t.told i less small
      | inr high ↦ (let e : i ≡ n = omega (arith, low, high) in
          ap (kind_in new) e
          ∙ (here (omega (arith, e, small))
          ∙ sym (ap (λ (k : ℕ). kind_told (inode_at pages root k)) e ∙ ap kind_told is)))
    ];
    rest = λ i high. others i (λ e. omega (arith, e, high)) ∙ t.rest i (omega (arith, high));
    all = λ both i low. elim (cases_lt i n) [
      | inl less ↦ t.all (both-parts before sound both).0 i less
      | inr high ↦ (let e : n ≡ i = omega (arith, low, high) in
          subst (λ (k : ℕ). IsSoundInode pages k (inode_at pages root k)) e
          (subst (IsSoundInode pages n) (sym is) (when (both-parts before sound both).1)))
    ];
    some_not = λ some. one before sound some refl refl;
  }
    where
      both-parts : (a b : Bool) → (a && b) ≡ true → (a ≡ true) × (b ≡ true)
      both-parts true true e = (refl, refl)
      both-parts true false e = cc
      both-parts false b e = cc

      one : (a b : Bool) → (a && b) ≡ false → before ≡ a → sound ≡ b
          → (i : ℕ) × (IsSoundInode pages i (inode_at pages root i) → ⊥)
      one false b e p q = t.some_not p
      one true false e p q = (n, λ s. unless q (subst (IsSoundInode pages n) is s))
      one true true e p q = cc

  pub told-none : (n : ℕ) (kinds : List (Option Kind)) (sound : Bool) → inode_at pages root n ≡ None
      → TellsInodes pages root n kinds sound → TellsInodes pages root (n + 1) kinds sound
  told-none n kinds sound is t = record {
    count = t.count;
    told = λ i low small. elim (cases_lt i n) [
      | inl less ↦ t.told i less small
      | inr high ↦
          (let e : i ≡ n = omega (arith, low, high) in
          t.rest i high ∙ sym (ap (λ (k : ℕ). kind_told (inode_at pages root k)) e ∙ ap kind_told is))
    ];
    rest = λ i high. t.rest i (omega (arith, high));
    all = λ fine i low. elim (cases_lt i n) [
      | inl less ↦ t.all fine i less
      | inr high ↦ (let e : n ≡ i = omega (arith, low, high) in
          subst (λ (k : ℕ). IsSoundInode pages k (inode_at pages root k)) e
          (subst (IsSoundInode pages n) (sym is) (none-sound pages n)))
    ];
    some_not = t.some_not;
  }

  -- numbers of inodes that aren't in use
  pub told-nones : (n m : ℕ) (kinds : List (Option Kind)) (sound : Bool)
      → ((i : ℕ) → n ≤ i → i < n + m → inode_at pages root i ≡ None) → TellsInodes pages root n kinds sound
      → TellsInodes pages root (n + m) kinds sound
  told-nones n zero kinds sound free t =
      let e : n ≡ n + 0 = omega arith in subst (λ (k : ℕ). TellsInodes pages root k kinds sound) e t
  told-nones n (suc m) kinds sound free t =
      let e : (n + m) + 1 ≡ n + suc m = omega arith in
      subst (λ (k : ℕ). TellsInodes pages root k kinds sound) e
      (told-none (n + m) kinds sound (free (n + m) (omega arith) (omega arith))
      (told-nones n m kinds sound (λ i low high. free i low (omega (arith, high))) t))

  none-in : (b i : ℕ) → page_at pages root b ≡ None → i / 8 ≡ b → inode_at pages root i ≡ None
  none-in b i none is =
      ap (λ (k : ℕ). option_and_then (λ page. inode_in page (i % 8)) (page_at pages root k)) is
      ∙ ap (option_and_then (λ page. inode_in page (i % 8))) none

  -- a block of inodes that isn't there
  pub told-hole : (b : ℕ) (kinds : List (Option Kind)) (sound : Bool) → page_at pages root b ≡ None
      → TellsInodes pages root (8 * b) kinds sound → TellsInodes pages root (8 * (b + 1)) kinds sound
  told-hole b kinds sound none t =
      let e : 8 * b + 8 ≡ 8 * (b + 1) = omega arith in
      subst (λ (k : ℕ). TellsInodes pages root k kinds sound) e
      (told-nones (8 * b) 8 kinds sound (λ i low high. none-in b i none (omega (arith, low, high))) t)

  -- all inodes are told
  pub told-all : (count : ℕ) (kinds : List (Option Kind)) (sound : Bool)
      → ((b : ℕ) → count ≤ b → page_at pages root b ≡ None) → TellsInodes pages root (8 * count) kinds sound
      → TellsAll pages root kinds sound
  told-all count kinds sound past t = record {
    count = t.count;
    told = λ i small. (on (i + 1)).told i (omega arith) small;
    all = λ fine i. (on (i + 1)).all fine i (omega arith);
    some_not = t.some_not;
  }
    where
      on : (m : ℕ) → TellsInodes pages root (8 * count + m) kinds sound
      on m =
          told-nones (8 * count) m kinds sound
          (λ i low high. none-in (i / 8) i (past (i / 8) (omega (arith, low))) refl) t
