-- Checkpoints that meet the conditions are sound and stand for trees, and the other way round.
use Rattle.std.proofs.Common.{◌≡◌, ℕ, zero, suc, ◌+◌, ◌*◌, ◌<◌, Bool, true, false, cond, List, [], ◌∷◌, length, Option, Some, None, refl, ap, sym, subst, ◌∙◌, inl, inr, arith}
use Rattle.std.specs.Prelude.{◌||◌, ◌==◌}
use Rattle.std.specs.List.{list_any, slice_get}
use Rattle.std.specs.Option.{is_some, option_and_then, option_map}
use Rattle.std.proofs.lemmas.Bool.{cases_lt, eqb-true, ne_eqb}
use Rattle.nl_types.specs.declared.period.Period.{Period}
use Rattle.nl_types.specs.Blocks.Entries.{Content, Entry, Place, covers, period_of}
use Rattle.nl_types.specs.Inodes.{InodeContent}
use Rattle.nl_types.specs.InodeLaws.{MeansPaths}
use Rattle.nl_check.specs.InodeTrees.{FormTree, used_below}
use Rattle.nl_types.specs.Blocks.RootChanges.{IsSound}
use Rattle.nl_types.specs.Blocks.Roots.{Empty, Pages, Root, page_at, pages_of, place_at}
use Rattle.nl_types.specs.Plain.Trees as trees
use Rattle.nl_check.specs.Facts.Forming.{formed_trees_are_meant, meant_trees_are_formed}
use Rattle.nl_types.specs.Facts.Inodes.Means.{inodes_mean_one_tree}
use Rattle.nl_layout.specs.Root.{root_of}
use Rattle.nl_layout.specs.declared.inode.Inode.{Inode}
use Rattle.nl_layout.specs.declared.inode.InodeKind.{InodeKind}
use Rattle.nl_layout.specs.declared.inode.InodeKind.TheVariants.{File, Directory, InodeFile}
use Rattle.nl_vstore.specs.Periods.{periods_of}
use Rattle.nl_blocktree.specs.Checkpoints.{numbers_of}
use Rattle.nl_dirs.specs.Records.{packed_block}
use Rattle.nl_dirs.specs.declared.record.Record.{Record}
use Rattle.nl_ifile.specs.Inodes.{block_bytes, block_for, block_places, inode_at}
use Rattle.nl_check.specs.Facts.Packed.{packed-few}
use Rattle.nl_files.specs.CheckpointTrees.{HoldsTree}
use Rattle.nl_tree.specs.Held.{Held, Holding, IsInodeNumber, Listed, Stored, inode_content, inodes_of_holding}
use Rattle.nl_files.specs.CheckpointRoots.{IsTreeSound, StandsAs, StandsFor, inode_root, roots_at}
use Rattle.nl_blocktree.specs.Facts.LowOffsets.{low-offsets}
use Rattle.nl_blocktree.specs.Facts.MetPlaces.{empty-place}
use Rattle.nl_blocktree.specs.Facts.Staying.{some-of}
use Rattle.nl_check.specs.Conditions.{has}
use Rattle.nl_check.specs.Facts.Below.{not-none}
use Rattle.nl_check.specs.Laws.{ExactPeriodsAreExact, SoundCheckpointsAreShaped, SoundCheckpointsMeetAll, SoundTreesAreMeant, StandsForTree}
use Rattle.nl_check.specs.Shapes.{At, IsShaped, Itself, Of, Owner, met, root_for}
use Rattle.nl_blocktree.specs.FileShapes.{HasShape}
use Rattle.nl_check.specs.Trees.{IsTreeOf}

any-has : (P : ℕ → Bool) (xs : List ℕ) → list_any P xs ≡ true → (k : ℕ) × (P k ≡ true)
any-has P [] h = cc
any-has P (x ∷ xs) h = by (P x) refl h (λ t. any-has P xs t)
  where
    by : (b : Bool) → P x ≡ b → (b || list_any P xs) ≡ true → (list_any P xs ≡ true → (k : ℕ) × (P k ≡ true))
        → (k : ℕ) × (P k ≡ true)
    by true e t more = (x, e)
    by false e t more = more t

-- an empty root has no block
empty-nowhere : (pages : Pages) (level offset v : ℕ) → place_at pages Empty level offset ≡ Some v → ⊥
empty-nowhere pages level offset v h = let none = empty-place pages level offset in cc

-- ---- what inodes in use hold

held-of : (pages : Pages) (inode : Inode) (held : Option Held) → StandsFor pages (Some inode) held
    → (x : Held) × (held ≡ Some x)
held-of pages inode held s = by inode.kind s
  where
    by : (kind : InodeKind) → StandsAs (page_at pages (root_of inode.root)) kind inode.size held
        → (x : Held) × (held ≡ Some x)
    by File s = (Stored inode.size (page_at pages (root_of inode.root)), s)
    by Directory s = (Listed s.0, s.2)
    by InodeFile s = absurd s

module _ (pages : Pages) (root : Root) (holding : Holding) (holds : HoldsTree pages root holding) where
  inode-number : (i : ℕ) (inode : Inode) → inode_at pages root i ≡ Some inode → IsInodeNumber i
  inode-number i inode at =
      let h =
      held-of pages inode (holding i)
      (subst (λ (o : Option Inode). StandsFor pages o (holding i)) at (holds.stores i)) in
      holds.sound.inode_numbers i h.0 h.1

  number-below : (i : ℕ) → IsInodeNumber i → i < 524288
  number-below i n = elim n [ inl e ↦ omega (arith, e) | inr r ↦ let high = r.1 in omega (arith, high) ]

  not-six : IsInodeNumber 6 → ⊥
  not-six n = elim n [ inl e ↦ omega (arith, e) | inr r ↦ let low = r.0 in omega (arith, low) ]

  -- an inode with blocks isn't the sixth
  other-than-six : (i level offset v : ℕ)
      → place_at pages (inode_root (inode_at pages root i)) level offset ≡ Some v → i ≡ 6 → ⊥
  other-than-six i level offset v at six = by (inode_at pages root i) refl at
    where
      by : (o : Option Inode) → inode_at pages root i ≡ o
          → place_at pages (inode_root o) level offset ≡ Some v → ⊥
      by None is h = empty-nowhere pages level offset v h
      by (Some inode) is h = not-six (subst IsInodeNumber six (inode-number i inode is))

module _ (pages : Pages) (root : Root) (size inodes : ℕ) (shape : IsShaped pages root)
    (tree : IsTreeOf pages root size inodes) where
  holds-tree : HoldsTree pages root tree.holding
  holds-tree = record { stores = tree.stores; sound = tree.limits }

  page-there : (r : Root) → HasShape pages r → (i v : ℕ) → place_at pages r 0 i ≡ Some v
      → (page : List ℕ) × (page_at pages r i ≡ Some page)
  page-there r s i v at =
      let p = some-of (pages v) (s.stored 0 i v at) in
      (p.0, ap (option_and_then pages) at ∙ p.1)

  -- blocks of inodes have low indices
  low-inodes : (i v : ℕ) → place_at pages root 0 i ≡ Some v → i < 262144
  low-inodes i v at =
      let page = page-there root (shape.files Itself) i v at in
      let used = in-block (λ k. inode_at pages root (8 * i + k)) page.0 (sym (shape.inodes i) ∙ page.1) in
      let number =
      number-below pages root tree.holding holds-tree (8 * i + used.0)
      (inode-number pages root tree.holding holds-tree (8 * i + used.0) used.1 used.2) in
      omega (arith, number)
    where
      in-block : (block : ℕ → Option Inode) (page : List ℕ) → block_for block ≡ Some page
          → (k : ℕ) × (inode : Inode) × (block k ≡ Some inode)
      in-block block page h = by (list_any (λ place. is_some (block place)) block_places) refl h
        where
          by : (b : Bool) → list_any (λ place. is_some (block place)) block_places ≡ b
              → cond b (Some (block_bytes block)) None ≡ Some page
              → (k : ℕ) × (inode : Inode) × (block k ≡ Some inode)
          by true e h =
              let k = any-has (λ place. is_some (block place)) block_places e in
              let x = some-of (block k.0) k.1 in
              (k.0, x.0, x.1)
          by false e h = cc

  -- and so have those of files and directories
  low-blocks : (i : ℕ) (inode : Inode) (held : Option Held) → tree.holding i ≡ held
      → HasShape pages (root_of inode.root) → StandsFor pages (Some inode) held
      → (j v : ℕ) → place_at pages (root_of inode.root) 0 j ≡ Some v → j < 262144
  low-blocks i inode held is s stands j v at = by inode.kind stands
    where
      blocks : ℕ → Option (List ℕ)
      blocks = page_at pages (root_of inode.root)

      by : (kind : InodeKind) → StandsAs (page_at pages (root_of inode.root)) kind inode.size held
          → j < 262144
      by File e = elim (cases_lt j 262144) [
        | inl low ↦ low
        | inr high ↦
            let page = page-there (root_of inode.root) s j v at in
            let file = tree.limits.each i (Stored inode.size (page_at pages (root_of inode.root))) (is ∙ e) in
            absurd (not-none (page_at pages (root_of inode.root) j) page.0
            (file.none_past j (omega (arith, file.small, high))) page.1)
      ]
      by Directory (records, h, e) =
          let page = page-there (root_of inode.root) s j v at in
          let few = (tree.limits.each i (Listed records) (is ∙ e)).count in
          let packed = packed-few records h.packed h.is_packed h.fit in
          let there = within h.packed j page.0 (sym (h.stored j) ∙ page.1) in
          omega (arith, few, packed, there)
        where
          within : (packed : List (List Record)) (j : ℕ) (page : List ℕ)
              → option_map packed_block (slice_get packed j) ≡ Some page → j < length packed
          within [] j page h = cc
          within (x ∷ xs) zero page h = omega arith
          within (x ∷ xs) (suc j) page h = let below = within xs j page h in omega (arith, below)
      by InodeFile e = absurd e

  low-data : (owner : Owner) (i v : ℕ) → place_at pages (root_for pages root owner) 0 i ≡ Some v → i < 262144
  low-data Itself i v at = low-inodes i v at
  low-data (Of n) i v at = by (inode_at pages root n) refl (shape.files (Of n)) (tree.stores n) at
    where
      by : (o : Option Inode) → inode_at pages root n ≡ o → HasShape pages (inode_root o)
          → StandsFor pages o (tree.holding n) → place_at pages (inode_root o) 0 i ≡ Some v → i < 262144
      by None is s stands h = absurd (empty-nowhere pages 0 i v h)
      by (Some inode) is s stands h = low-blocks n inode (tree.holding n) refl s stands i v h

  sound-file : (owner : Owner) → IsSound pages (root_for pages root owner)
  sound-file owner =
      let s = shape.files owner in
      record {
        in_range = low-offsets pages (root_for pages root owner) 262144 s (low-data owner);
        stored = s.stored;
        once = λ p q v a b.
            let e =
            shape.once (record { owner = owner; level = p.0; offset = p.1 })
            (record { owner = owner; level = q.0; offset = q.1 }) v a b in
            ap (λ (at : At). (at.level, at.offset)) e;
        ends_full = s.ends_full;
        has_top = s.has_top;
        tree_shape = s.tree_shape;
      }

  sound-tree : IsTreeSound pages root
  sound-tree = record { inode_file = sound-file Itself; inodes = shape.inodes; each = λ i. sound-file (Of i) }

  few : (i : ℕ) (c : InodeContent) → inodes_of_holding tree.holding i ≡ Some c → i < 524288
  few i c is = by (tree.holding i) refl is
    where
      by : (o : Option Held) → tree.holding i ≡ o → option_map inode_content o ≡ Some c → i < 524288
      by None at h = cc
      by (Some held) at h =
          number-below pages root tree.holding holds-tree i (tree.limits.inode_numbers i held at)

  stands : StandsForTree pages root inodes
  stands =
      let t = formed_trees_are_meant (inodes_of_holding tree.holding) 524288 few tree.forms in
      record {
        holding = tree.holding;
        holds = holds-tree;
        tree = t.0;
        means = record { means = t.1.means; count = t.1.count ∙ sym tree.counted };
      }

pub sound_trees_are_meant : SoundTreesAreMeant
sound_trees_are_meant pages root size inodes shape tree =
    (sound-tree pages root size inodes shape tree, stands pages root size inodes shape tree)

-- ---- numbers

-- whose blocks those of an inode's number are
owner-of : ℕ → Owner
owner-of i = cond (i == 6) Itself (Of i)

number-of-owner : Owner → ℕ
number-of-owner Itself = 6
number-of-owner (Of i) = i

roots-of : (pages : Pages) (root : Root) (i : ℕ) → roots_at pages root i ≡ root_for pages root (owner-of i)
unfolding owner-of
roots-of pages root i = by (i == 6)
  where
    by : (b : Bool)
        → cond b root (inode_root (inode_at pages root i)) ≡ root_for pages root (cond b Itself (Of i))
    by true = refl
    by false = refl

owner-back : (i : ℕ) → number-of-owner (owner-of i) ≡ i
unfolding owner-of number-of-owner
owner-back i = by (i == 6) refl
  where
    by : (b : Bool) → (i == 6) ≡ b → number-of-owner (cond b Itself (Of i)) ≡ i
    by true e = sym (eqb-true i 6 e)
    by false e = refl

at-of : Place → At
at-of q = record { owner = owner-of q.inode; level = q.level; offset = q.offset }

met-there : (pages : Pages) (root : Root) (q : Place)
    → numbers_of pages (roots_at pages root) q ≡ met pages root (at-of q)
unfolding at-of
met-there pages root q = ap (λ (r : Root). place_at pages r q.level q.offset) (roots-of pages root q.inode)

-- a place by its parts
same-place : (p q : Place) → p.inode ≡ q.inode → p.level ≡ q.level → p.offset ≡ q.offset → p ≡ q
same-place p q a b c = λ i. record { inode = a i; level = b i; offset = c i }

same-at : (p q : At) → p.owner ≡ q.owner → p.level ≡ q.level → p.offset ≡ q.offset → p ≡ q
same-at p q a b c = λ i. record { owner = a i; level = b i; offset = c i }

module _ (pages : Pages) (root : Root) (holding : Holding) (holds : HoldsTree pages root holding) where
  place-of : At → Place
  place-of at = record { inode = number-of-owner at.owner; level = at.level; offset = at.offset }

  -- what is met is at the place of the same file
  numbered : (at : At) (v : ℕ) → met pages root at ≡ Some v
      → numbers_of pages (roots_at pages root) (place-of at) ≡ Some v
  unfolding place-of number-of-owner owner-of
  numbered at v h = by at.owner refl h
    where
      to : (o : Owner) → root_for pages root (owner-of (number-of-owner o)) ≡ root_for pages root o
          → at.owner ≡ o → place_at pages (root_for pages root o) at.level at.offset ≡ Some v
          → numbers_of pages (roots_at pages root) (place-of at) ≡ Some v
      to o same is h =
          ap (λ (r : Root). place_at pages r at.level at.offset)
          (roots-of pages root (number-of-owner at.owner)
          ∙ (ap (λ (w : Owner). root_for pages root (owner-of (number-of-owner w))) is ∙ same))
          ∙ h

      by : (o : Owner) → at.owner ≡ o → place_at pages (root_for pages root o) at.level at.offset ≡ Some v
          → numbers_of pages (roots_at pages root) (place-of at) ≡ Some v
      by Itself is h = to Itself refl is h
      by (Of i) is h =
          to (Of i) (ap (λ b. root_for pages root (cond b Itself (Of i)))
          (ne_eqb i 6 (other-than-six pages root holding holds i at.level at.offset v h)))
          is h

  -- places of what is met tell whose it is
  owner-there : (at : At) (v : ℕ) → met pages root at ≡ Some v
      → at.owner ≡ owner-of (number-of-owner at.owner)
  unfolding number-of-owner owner-of
  owner-there at v h = by at.owner refl h
    where
      by : (o : Owner) → at.owner ≡ o → place_at pages (root_for pages root o) at.level at.offset ≡ Some v
          → at.owner ≡ owner-of (number-of-owner at.owner)
      by Itself is h = is ∙ ap (λ (w : Owner). owner-of (number-of-owner w)) (sym is)
      by (Of i) is h =
          is
          ∙ (sym (ap (λ b. cond b Itself (Of i))
          (ne_eqb i 6 (other-than-six pages root holding holds i at.level at.offset v h)))
          ∙ ap (λ (w : Owner). owner-of (number-of-owner w)) (sym is))

-- an entry with its period
entry-with : (content : Content) (v : ℕ) (period : Period) → periods_of content v ≡ Some period
    → (e : Entry) × (content v ≡ Some e) × (period_of e ≡ period)
entry-with content v period is = by (content v) refl is
  where
    by : (o : Option Entry) → content v ≡ o → option_map period_of o ≡ Some period
        → (e : Entry) × (content v ≡ Some e) × (period_of e ≡ period)
    by None at h = cc
    by (Some e) at h = (e, at, cc)

covers-has : (c : ℕ) (e : Entry) → covers c e ≡ has c (period_of e)
covers-has c e = refl

pub exact_periods_are_exact : ExactPeriodsAreExact
unfolding at-of
exact_periods_are_exact content c root size inodes shape tree meets = record {
  reached = λ q v h.
      let m = meets.covering (at-of q) v (sym (met-there pages root q) ∙ h) in
      let e = entry-with content v m.0 m.1 in
      (e.0, e.1, covers-has c e.0 ∙ (ap (has c) e.2 ∙ m.2));
  once = λ p q v a b.
      let e =
      shape.once (at-of p) (at-of q) v (sym (met-there pages root p) ∙ a)
      (sym (met-there pages root q) ∙ b) in
      same-place p q
      (sym (owner-back p.inode) ∙ (ap (λ (at : At). number-of-owner at.owner) e ∙ owner-back q.inode))
      (ap (λ (at : At). at.level) e) (ap (λ (at : At). at.offset) e);
  covering = λ v e is cover.
      let m = meets.met_all v (period_of e) (ap (option_map period_of) is) (sym (covers-has c e) ∙ cover) in
      (place-of pages root tree.holding holds m.0, numbered pages root tree.holding holds m.0 v m.1);
}
  where
    pages : Pages
    pages = pages_of content

    holds : HoldsTree (pages_of content) root tree.holding
    holds = holds-tree (pages_of content) root size inodes shape tree

-- ---- the other way round

pub sound_checkpoints_are_shaped : SoundCheckpointsAreShaped
unfolding place-of
sound_checkpoints_are_shaped content c root holding sound holds exact = record {
  files = shaped;
  inodes = sound.inodes;
  once = λ p q v a b.
      let e =
      exact.once (place p) (place q) v (numbered (pages_of content) root holding holds p v a)
      (numbered (pages_of content) root holding holds q v b) in
      same-at p q
      (owner-there (pages_of content) root holding holds p v a
      ∙ (ap owner-of (inodes_equal p q e) ∙ sym (owner-there (pages_of content) root holding holds q v b)))
      (ap (λ (x : Place). x.level) e) (ap (λ (x : Place). x.offset) e);
}
  where
    place : At → Place
    place = place-of (pages_of content) root holding holds

    inodes_equal : (p q : At) → place p ≡ place q → number-of-owner p.owner ≡ number-of-owner q.owner
    inodes_equal p q e = ap (λ (x : Place). x.inode) e

    shape_of : (r : Root) → IsSound (pages_of content) r → HasShape (pages_of content) r
    shape_of r s =
        record { stored = s.stored; has_top = s.has_top; ends_full = s.ends_full; tree_shape = s.tree_shape }

    shaped : (owner : Owner) → HasShape (pages_of content) (root_for (pages_of content) root owner)
    shaped Itself = shape_of root sound.inode_file
    shaped (Of i) = shape_of (inode_root (inode_at (pages_of content) root i)) (sound.each i)

pub sound_checkpoints_meet_all : SoundCheckpointsMeetAll
unfolding at-of
sound_checkpoints_meet_all content c root size holding tree inodes sound holds means sized exact = record {
  shaped = sound_checkpoints_are_shaped content c root holding sound holds exact;
  tree = record {
    holding = holding;
    stores = holds.stores;
    limits = holds.sound;
    forms = formed;
    counted =
        sym means.count
        ∙ (ap (λ (t : trees.Tree). length t)
        (inodes_mean_one_tree (inodes_of_holding holding) tree again.0 means.means again.1.means)
        ∙ again.1.count);
    sized = sized;
  };
  exact = record {
    covering = λ at v h.
        let r = exact.reached (place at) v (numbered (pages_of content) root holding holds at v h) in
        (period_of r.0, ap (option_map period_of) r.1, sym (covers-has c r.0) ∙ r.2);
    met_all = λ v period is cover.
        let e = entry-with content v period is in
        let r = exact.covering v e.0 e.1 (covers-has c e.0 ∙ (ap (has c) e.2 ∙ cover)) in
        (at-of r.0, sym (met-there (pages_of content) root r.0) ∙ r.1);
  };
}
  where
    place : At → Place
    place = place-of (pages_of content) root holding holds

    formed : FormTree (inodes_of_holding holding)
    formed = meant_trees_are_formed (inodes_of_holding holding) tree means.means

    below : (i : ℕ) (x : InodeContent) → inodes_of_holding holding i ≡ Some x → i < 524288
    below i x is = by (holding i) refl is
      where
        by : (o : Option Held) → holding i ≡ o → option_map inode_content o ≡ Some x → i < 524288
        by None at h = cc
        by (Some held) at h =
            number-below (pages_of content) root holding holds i (holds.sound.inode_numbers i held at)

    again : (t : trees.Tree)
        × MeansPaths (inodes_of_holding holding) t (used_below (inodes_of_holding holding) 524288)
    again = formed_trees_are_meant (inodes_of_holding holding) 524288 below formed
