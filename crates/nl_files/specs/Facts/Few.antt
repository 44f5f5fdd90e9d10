-- The first checkpoint writes two blocks at most: a block of inodes, and its node.
use Rattle.std.proofs.Common.{◌≡◌, ◌⊎◌, ◌<◌, ◌≤◌, ◌+◌, ◌*◌, ◌^◌, ℕ, zero, suc, Bool, List, [], ◌∷◌, length, Option, Some, None, refl, ap, sym, subst, ◌∙◌, inl, inr, arith}
use Rattle.std.proofs.lemmas.Bool.{cases_eq, cases_lt, eq-eqb, ne_eqb}
use Rattle.std.specs.Prelude.{cond}
use Rattle.std.proofs.Math.Nat.{div-le_self}
use Rattle.std.specs.List.{Contains, slice_get}
use Rattle.std.specs.Option.{option_map, option_and_then}
use Rattle.nl_types.specs.Blocks.Entries.{Birth, GivenOnce, birth_of}
use Rattle.nl_types.specs.Blocks.Lifetimes.{blank}
use Rattle.nl_types.specs.Blocks.Roots as roots
use Rattle.nl_types.specs.Blocks.Roots.{Pages, page_at, pages_of, place_at}
use Rattle.nl_types.specs.Blocks.RootChanges.{IsSound}
use Rattle.nl_vstore.specs.Batches.{Changes, CanBeTaken}
use Rattle.nl_layout.specs.Root.{root_of}
use Rattle.nl_layout.specs.declared.root.Root.{Root}
use Rattle.nl_layout.specs.declared.inode.Inode.{Inode}
use Rattle.nl_layout.specs.declared.inode.InodeKind.{InodeKind}
use Rattle.nl_layout.specs.declared.inode.InodeKind.TheVariants.{File, Directory, InodeFile}
use Rattle.nl_blocktree.specs.Checkpoints.{WritesWhatDiffers, ledger_pages}
use Rattle.nl_blocktree.specs.Putting.{pages_after}
use Rattle.nl_blocktree.specs.Facts.Staying.{some-of}
use Rattle.nl_blocktree.specs.Facts.TreeLevels.{tree_above}
use Rattle.nl_types.specs.Facts.ExactLifetimes.{ledger-blank}
use Rattle.nl_ifile.specs.Inodes.{block_for, in_block, inode_at}
use Rattle.nl_dirs.specs.declared.record.Record.{Record}
use Rattle.nl_dirs.specs.Records.{packed_block}
use Rattle.nl_dirs.specs.Packing.{IsPacked, no_blocks}
use Rattle.nl_dirs.specs.Listings.{HoldsRecords}
use Rattle.nl_tree.specs.Held.{Held, Listed, Stored}
use Rattle.nl_tree.specs.FirstTree.{first_holding, nothing_held, root_directory_alone}
use Rattle.nl_tree.specs.Facts.FirstTree.{absent-first, root-first}
use Rattle.nl_files.specs.CheckpointRoots.{StandsAs, StandsFor, inode_root, roots_at}
use Rattle.nl_files.specs.Laws.{ledger_with}
use Rattle.nl_files.specs.Settles.{Settles}
use Rattle.nl_files.specs.Facts.First.{latest-first}
use Rattle.nl_files.specs.Facts.Following.{settled-differ, settled-pages, some-held}
use Rattle.nl_files.specs.Facts.Ones.{empty-none, high-none, no_place}

none-stands : (pages : Pages) (o : Option Inode) (h : Option Held) → StandsFor pages o h → h ≡ None → o ≡ None
none-stands pages None h s e = refl
none-stands pages (Some n) h s e =
    let x = some-held n.kind _ n.size h s in absurd (let no : None ≡ Some x.0 = sym e ∙ x.1 in cc)

packed-none : (packed : List (List Record)) → IsPacked [] packed → packed ≡ []
packed-none _ no_blocks = refl

-- a directory without names has no place
empty-as : (kind : InodeKind) (pages : Pages) (root : Root) (size : ℕ) (h : Option Held)
    → StandsAs (page_at pages (root_of root)) kind size h → h ≡ Some (Listed [])
    → IsSound pages (root_of root) →
    (level offset : ℕ) → place_at pages (root_of root) level offset ≡ None
empty-as File pages root size h s e sound level offset =
    absurd (let no : Some (Listed []) ≡ Some (Stored size (page_at pages (root_of root))) = sym e ∙ s in cc)
empty-as Directory pages root size h s e sound level offset =
    let same : Some (Listed s.0) ≡ Some (Listed []) = sym s.2 ∙ e in
    let rs : s.0 ≡ [] = cc in
    let holds : HoldsRecords (page_at pages (root_of root)) size [] =
    subst (λ (xs : List Record). HoldsRecords (page_at pages (root_of root)) size xs) rs s.1 in
    no_place pages root sound
    (λ b.
    holds.stored b
    ∙ ap (λ (p : List (List Record)). option_map packed_block (slice_get p b))
    (packed-none holds.packed holds.is_packed))
    level offset
empty-as InodeFile pages root size h s e sound level offset = absurd s

empty-directory : (pages : Pages) (o : Option Inode) (h : Option Held) → StandsFor pages o h
    → h ≡ Some (Listed []) → IsSound pages (inode_root o) → (level offset : ℕ)
    → place_at pages (inode_root o) level offset ≡ None
empty-directory pages None h s e sound level offset = empty-none pages level offset
empty-directory pages (Some n) h s e sound level offset =
    empty-as n.kind pages n.root n.size h s e sound level offset

block-none : (f : ℕ → Option Inode) → ((p : ℕ) → f p ≡ None) → block_for f ≡ None
block-none f h = let e : f ≡ (λ p. None) = λ j. λ p. h p j in ap block_for e

-- where data has index 0 alone, there is one node at most
shape-first : (pages : Pages) (root : roots.Root) → IsSound pages root
    → ((offset v : ℕ) → place_at pages root 0 offset ≡ Some v → offset ≡ 0) →
    (level offset v : ℕ) → place_at pages root (suc level) offset ≡ Some v → (suc level ≤ 1) × (offset ≡ 0)
shape-first pages roots.Empty sound first level offset v e =
    let no : None ≡ Some v = sym (empty-none pages (suc level) offset) ∙ e in cc
shape-first pages (roots.Chain top) sound first zero offset v e =
    let r = sound.ends_full refl offset v e in
    let x = some-of (place_at pages (roots.Chain top) 0 r.0) r.2 in
    let i = first r.0 x.0 x.1 in
    (omega arith, omega (arith, r.1, i))
shape-first pages (roots.Chain top) sound first (suc level) offset v e =
    let no : None ≡ Some v = sym (high-none pages top level offset) ∙ e in cc
shape-first pages (roots.Tree height top) sound first level offset v e =
    let shape = sound.tree_shape refl in
    let r = shape.above_data level offset v e in
    let x = some-of (place_at pages (roots.Tree height top) 0 r.0) r.2 in
    let i = first r.0 x.0 x.1 in
    let at = r.1 in
    let least = shape.least in
    let y = some-of (place_at pages (roots.Tree height top) 0 least.0) least.1 in
    let j = first least.0 y.0 y.1 in
    let low = least.2 1 (omega arith) (omega (arith, j)) in
    let down = div-le_self r.0 (128 ^ suc level) in
    (within (cases_lt height (suc level)) low, omega (arith, i, at, down))
  where
    within : (height < suc level) ⊎ (suc level ≤ height) → height ≤ 1 → suc level ≤ 1
    within (inl far) low =
        let no : None ≡ Some v = sym (tree_above pages height top (suc level) offset far) ∙ e in cc
    within (inr near) low = omega (arith, near, low)

-- two births of a list have two numbers
one-number : (b : Birth) (births : List Birth) (n : ℕ) → b.number ≡ n → birth_of (b ∷ births) n ≡ None → ⊥
one-number b births n e none =
    absurd (let no : Some b
    ≡ None = sym (ap (λ (t : Bool). cond t (Some b) (birth_of births n)) (eq-eqb n b.number (sym e)))
    ∙ none in
    cc)

module _ (room : ℕ) (new : Root) (batch : Changes)
    (s : Settles blank.content roots.Empty (root_of new) root_directory_alone first_holding batch)
    (fits : CanBeTaken room blank.content batch) where
  final : Pages
  final = pages_after blank.content batch

  inode-none : (i : ℕ) → (i ≡ 2 → ⊥) → inode_at (pages_after blank.content batch) (root_of new) i ≡ None
  inode-none i n = none-stands _ _ (first_holding i) (s.stores i) (absent-first i n)

  -- the file of inodes has one block and one node
  data-first : (offset v : ℕ) → place_at (pages_after blank.content batch) (root_of new) 0 offset ≡ Some v
      → offset ≡ 0
  data-first zero v e = refl
  data-first (suc o) v e =
      let page = some-of _ (s.sound.inode_file.stored 0 (suc o) v e) in
      let here : page_at (pages_after blank.content batch) (root_of new) (suc o) ≡ Some page.0 =
      ap (option_and_then (pages_after blank.content batch)) e ∙ page.1 in
      let none =
      s.sound.inodes (suc o)
      ∙ block-none (in_block (inode_at (pages_after blank.content batch) (root_of new)) (suc o))
      (λ p. inode-none (8 * suc o + p) (λ is. omega arith)) in
      absurd (let no : None ≡ Some page.0 = sym none ∙ here in cc)

  place-first : (level offset v : ℕ)
      → place_at (pages_after blank.content batch) (root_of new) level offset ≡ Some v
      → (level ≤ 1) × (offset ≡ 0)
  place-first zero offset v e = (omega arith, data-first offset v e)
  place-first (suc level) offset v e =
      shape-first (pages_after blank.content batch)
      (root_of new) s.sound.inode_file data-first level offset v e

  differs : WritesWhatDiffers (ledger_pages blank) (ledger_pages (ledger_with batch blank))
      (roots_at (ledger_pages blank) roots.Empty)
      (roots_at (ledger_pages (ledger_with batch blank)) (root_of new)) 6 batch.births batch.ends
  differs =
      settled-differ room blank roots.Empty
      (root_of new) nothing_held first_holding root_directory_alone batch ledger-blank latest-first s fits

  there : (b : Birth) → Contains batch.births b
      → place_at (pages_after blank.content batch)
      (roots_at (pages_after blank.content batch) (root_of new) b.place.inode) b.place.level b.place.offset
      ≡ Some b.number
  there b c =
      subst (λ (pages : Pages).
      place_at pages (roots_at pages (root_of new) b.place.inode) b.place.level b.place.offset
      ≡ Some b.number)
      (settled-pages room blank roots.Empty
      (root_of new) nothing_held first_holding root_directory_alone batch ledger-blank latest-first s fits)
      (differs.born_placed b c)

  of-six : (b : Birth) → Contains batch.births b → b.place.inode ≡ 6
  of-six b c = step (cases_eq b.place.inode 6) (cases_eq b.place.inode 2)
    where
      at : (b.place.inode ≡ 6 → ⊥)
          → place_at (pages_after blank.content batch)
          (inode_root (inode_at (pages_after blank.content batch) (root_of new) b.place.inode))
          b.place.level b.place.offset
          ≡ Some b.number
      at n =
          subst (λ (r : roots.Root).
          place_at (pages_after blank.content batch) r b.place.level b.place.offset ≡ Some b.number)
          (ap (λ (t : Bool).
          cond t (root_of new)
          (inode_root (inode_at (pages_after blank.content batch) (root_of new) b.place.inode)))
          (ne_eqb b.place.inode 6 n))
          (there b c)

      step : (b.place.inode ≡ 6) ⊎ (b.place.inode ≡ 6 → ⊥) → (b.place.inode ≡ 2) ⊎ (b.place.inode ≡ 2 → ⊥)
          → b.place.inode ≡ 6
      step (inl e) x = e
      step (inr n) (inl e) =
          absurd (let no : None
          ≡ Some b.number =
          sym (empty-directory _ _ (first_holding b.place.inode) (s.stores b.place.inode)
          (root-first b.place.inode e) (s.sound.each b.place.inode) b.place.level b.place.offset)
          ∙ at n in
          cc)
      step (inr n) (inr m) =
          absurd (let no : None
          ≡ Some b.number =
          sym (ap (λ (o : Option Inode).
          place_at (pages_after blank.content batch) (inode_root o) b.place.level b.place.offset)
          (inode-none b.place.inode m)
          ∙ empty-none _ b.place.level b.place.offset)
          ∙ at n in
          cc)

  at-six : (b : Birth) → Contains batch.births b
      → place_at (pages_after blank.content batch) (root_of new) b.place.level b.place.offset ≡ Some b.number
  at-six b c =
      let e = of-six b c in
      subst (λ (r : roots.Root).
      place_at (pages_after blank.content batch) r b.place.level b.place.offset ≡ Some b.number)
      (ap (λ (t : Bool).
      cond t (root_of new)
      (inode_root (inode_at (pages_after blank.content batch) (root_of new) b.place.inode)))
      (eq-eqb b.place.inode 6 e))
      (there b c)

  level-of : (b : Birth) → Contains batch.births b → (b.place.level ≡ 0) ⊎ (b.place.level ≡ 1)
  level-of b c = step (cases_eq b.place.level 0)
    where
      step : (b.place.level ≡ 0) ⊎ (b.place.level ≡ 0 → ⊥) → (b.place.level ≡ 0) ⊎ (b.place.level ≡ 1)
      step (inl e) = inl e
      step (inr n) =
          let h = place-first b.place.level b.place.offset b.number (at-six b c) in
          inr (omega (arith, h.0, n))

  -- births of one level have one number
  same-number : (a b : Birth) → Contains batch.births a → Contains batch.births b
      → a.place.level ≡ b.place.level → a.number ≡ b.number
  same-number a b c d e =
      let p = place-first a.place.level a.place.offset a.number (at-six a c) in
      let q = place-first b.place.level b.place.offset b.number (at-six b d) in
      let one : Some a.number ≡ Some b.number =
      sym (at-six a c)
      ∙ (ap (λ (l : ℕ). place_at (pages_after blank.content batch) (root_of new) l a.place.offset) e
      ∙ (ap (λ (o : ℕ). place_at (pages_after blank.content batch) (root_of new) b.place.level o)
      (p.1 ∙ sym q.1)
      ∙ at-six b d)) in
      cc

  pub few-births : length batch.births ≤ 2
  few-births = by batch.births refl fits.once
    where
      clash : (a b : Birth) → Contains batch.births a → Contains batch.births b
          → a.place.level ≡ b.place.level → (a.number ≡ b.number → ⊥) → ⊥
      clash a b c d e n = n (same-number a b c d e)

      by : (births : List Birth) → batch.births ≡ births → GivenOnce births → length births ≤ 2
      by [] is once = omega arith
      by (a ∷ []) is once = omega arith
      by (a ∷ b ∷ []) is once = omega arith
      by (a ∷ b ∷ c ∷ rest) is once = absurd (three (level-of a in_a) (level-of b in_b) (level-of c in_c))
        where
          member : (x : Birth) → Contains (a ∷ b ∷ c ∷ rest) x → Contains batch.births x
          member x h = subst (λ (bs : List Birth). Contains bs x) (sym is) h

          in_a : Contains batch.births a
          in_a = member a (0, omega arith, refl)

          in_b : Contains batch.births b
          in_b = member b (1, omega arith, refl)

          in_c : Contains batch.births c
          in_c = member c (2, omega arith, refl)

          ab : a.number ≡ b.number → ⊥
          ab e = one-number b (c ∷ rest) a.number (sym e) once.0

          ac : a.number ≡ c.number → ⊥
          ac e = step (cases_eq a.number b.number)
            where
              step : (a.number ≡ b.number) ⊎ (a.number ≡ b.number → ⊥) → ⊥
              step (inl k) = ab k
              step (inr n) =
                  one-number c rest a.number (sym e)
                  (sym (ap (λ (t : Bool). cond t (Some b) (birth_of (c ∷ rest) a.number))
                  (ne_eqb a.number b.number n))
                  ∙ once.0)

          bc : b.number ≡ c.number → ⊥
          bc e = one-number c rest b.number (sym e) once.1.0

          three : (a.place.level ≡ 0) ⊎ (a.place.level ≡ 1) → (b.place.level ≡ 0) ⊎ (b.place.level ≡ 1)
              → (c.place.level ≡ 0) ⊎ (c.place.level ≡ 1) → ⊥
          three (inl x) (inl y) z = clash a b in_a in_b (x ∙ sym y) ab
          three (inr x) (inr y) z = clash a b in_a in_b (x ∙ sym y) ab
          three (inl x) (inr y) (inl z) = clash a c in_a in_c (x ∙ sym z) ac
          three (inr x) (inl y) (inr z) = clash a c in_a in_c (x ∙ sym z) ac
          three (inl x) (inr y) (inr z) = clash b c in_b in_c (y ∙ sym z) bc
          three (inr x) (inl y) (inl z) = clash b c in_b in_c (y ∙ sym z) bc
