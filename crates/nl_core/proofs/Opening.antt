-- What was judged of an image is what a pen needs that is opened of it.
use Rattle.std.proofs.Common.{◌≡◌, ℕ, ◌<◌, ◌≤◌, ◌^◌, Bool, true, false, cond, List, [], ◌∷◌, map, slice_index_or, Option, Some, None, refl, ap, sym, subst, ◌∙◌, arith}
use Rattle.std.specs.Prelude.{All, IsSome, nat_le}
use Rattle.std.specs.List.{AllZip}
use Rattle.std.specs.Option.{option_map}
use Rattle.std.proofs.Math.ListN.{get_or-map}
use Rattle.std.proofs.lemmas.Bool.{le-leb}
use Rattle.std.proofs.lemmas.List.Elements.{All-cons, All-head, All-nil, All-tail, recursion_from_All}
use Rattle.nl_types.specs.Blocks.Entries.{Content, Entry}
use Rattle.nl_types.specs.Blocks.Lifetimes.{IsBounded}
use Rattle.nl_types.specs.Blocks.RootChanges.{IsSound}
use Rattle.nl_types.specs.Blocks.Roots.{Pages, Root, pages_of, place_at}
use Rattle.nl_types.specs.Blocks.Roots as roots
use Rattle.nl_types.specs.Blocks.Segments.{Segments}
use Rattle.nl_layout.specs.Root.{fields_of, root_of, root_told}
use Rattle.nl_layout.specs.declared.checkpoint_entry.CheckpointEntry.{CheckpointEntry}
use Rattle.nl_layout.specs.declared.root.Root as layout
use Rattle.nl_layout.specs.declared.root.Root.TheVariants.{Chain, Empty, Tree}
use Rattle.nl_vstore.specs.Periods.{periods_of}
use Rattle.nl_vstore.specs.Stores.{Numbered, Store, content_in, entry_now, numbered_in}
use Rattle.nl_dat.specs.declared.entries.DatEntry.{DatEntry}
use Rattle.nl_dat.specs.Images.{HasPeriod, IsDatOf, entry_told, table_of}
use Rattle.nl_dat.specs.Table.{dat_entry_of, entries_shown}
use Rattle.nl_check.specs.Conditions.{AreExact, AreShaped, AreTrees, HasExactPeriods, IsSoundShape, IsSoundTree, MeetsItsNumbers}
use Rattle.nl_check.specs.Judging.{told}
use Rattle.nl_check.specs.Shapes.{IsShaped}
use Rattle.nl_check.specs.Trees.{IsTreeOf}
use Rattle.nl_cpfile.specs.Images.{HasNumber, HasRoot, IsEntryOf}
use Rattle.nl_cpfile.specs.Tables.{Table, all, checkpoint_root}
use Rattle.nl_cpfile.specs.declared.checkpoint.Checkpoint.{Checkpoint}
use Rattle.nl_cpfile.specs.Facts.Rising.{All-last}
use Rattle.nl_core.specs.Opened.{IsChecked}

-- ---- conditions 8 to 10

-- the fields of a root tell no other
told-one : (r s : layout.Root) → root_told (fields_of r) ≡ Some s → r ≡ s
told-one Empty s is = cc
told-one (Chain top) s is = cc
told-one (Tree height top) s is = by (nat_le height 3) is
  where
    by : (low : Bool) → cond low (Some (Tree height top)) None ≡ Some s → Tree height top ≡ s
    by true same = cc
    by false same = cc

-- so an entry tells the root of its checkpoint, if it tells one
pub told-root : (c : Checkpoint) (e : CheckpointEntry) (root : Root) → IsEntryOf c e
    → (told e).root ≡ Some root
    → root ≡ root_of (checkpoint_root c)
told-root c e root is same = by (root_told e.root) refl same
  where
    by : (o : Option layout.Root) → root_told e.root ≡ o → option_map root_of o ≡ Some root
        → root ≡ root_of (checkpoint_root c)
    by None found none = cc
    by (Some r) found some =
        let its : root_of r ≡ root = cc in
        sym its ∙ sym (ap root_of (told-one (checkpoint_root c) r (ap root_told (sym is.root) ∙ found)))

-- the root of a sound file is told, as no tree is higher than 3
root-told : (pages : Pages) (root : layout.Root) → IsSound pages (root_of root)
    → root_told (fields_of root) ≡ Some root
root-told pages Empty sound = refl
root-told pages (Chain top) sound = refl
root-told pages (Tree height top) sound = rw (le-leb height 3 low) refl
  where
    far : (i : ℕ) (o : Option ℕ) → place_at pages (roots.Tree height top) 0 i ≡ o → IsSome o → i < 128 ^ 3
    far i None at there = cc
    far i (Some v) at there = let range = sound.in_range 0 i v at in omega (arith, range)

    low : height ≤ 3
    low =
        let least = (sound.tree_shape refl).least in
        least.2 3 (omega arith) (far least.0 (place_at pages (roots.Tree height top) 0 least.0) refl least.1)

pub told-whole : (pages : Pages) (c : Checkpoint) (e : CheckpointEntry) → IsEntryOf c e
    → IsSound pages (root_of (checkpoint_root c))
    → (told e).root ≡ Some (root_of (checkpoint_root c))
told-whole pages c e is sound =
    ap (option_map root_of) (ap root_told is.root ∙ root-told pages (checkpoint_root c) sound)

inside_some : {A : Type 0} (a b : A) → Some a ≡ Some b → a ≡ b
inside_some a b same = cc

module _ (content : Content) where
  -- a checkpoint whose entry meets the conditions was checked
  one-checked : (c : Checkpoint) (e : CheckpointEntry) → IsEntryOf c e → HasNumber e
      → IsSoundShape (pages_of content) (told e)
      → IsSoundTree (pages_of content) (told e)
      → HasExactPeriods (pages_of content) (periods_of content) (told e)
      → IsChecked content c
  one-checked c e is number shape tree exact = record {
    positive = subst (λ (n : ℕ). 1 ≤ n) is.number number.positive;
    size = e.size;
    meets = record {
      shaped = subst (IsShaped (pages_of content)) (its shape.0 shape.1) shape.2;
      tree = subst (IsTreeOf (pages_of content) (root_of (checkpoint_root c)) e.size) is.inodes
          (subst (λ (root : Root). IsTreeOf (pages_of content) root e.size e.inodes)
          (its tree.0 tree.1) tree.2);
      exact =
          subst (λ (n : ℕ).
          MeetsItsNumbers (pages_of content) (periods_of content) n (root_of (checkpoint_root c)))
          is.number
          (subst (MeetsItsNumbers (pages_of content) (periods_of content) e.number)
          (its exact.0 exact.1) exact.2);
    };
  }
    where
      its : (root : Root) → (told e).root ≡ Some root → root ≡ root_of (checkpoint_root c)
      its root same = told-root c e root is same

  -- the checkpoints of entries that meet the conditions were checked
  pub each-checked : (kept : List Checkpoint) (entries : List CheckpointEntry) → AllZip IsEntryOf kept entries
      → All HasNumber entries → AreShaped (pages_of content) (map told entries)
      → AreTrees (pages_of content) (map told entries)
      → AreExact (pages_of content) (periods_of content) (map told entries) → All (IsChecked content) kept
  each-checked [] [] are numbers shapes trees exact = All-nil (IsChecked content)
  each-checked [] (e ∷ entries) are numbers shapes trees exact = absurd are
  each-checked (c ∷ kept) [] are numbers shapes trees exact = absurd are
  each-checked (c ∷ kept) (e ∷ entries) are numbers shapes trees exact =
      All-cons (IsChecked content) c kept
      (one-checked c e are.0 (All-head HasNumber e entries numbers)
      (All-head (IsSoundShape (pages_of content)) (told e) (map told entries) shapes)
      (All-head (IsSoundTree (pages_of content)) (told e) (map told entries) trees)
      (All-head (HasExactPeriods (pages_of content) (periods_of content)) (told e) (map told entries) exact))
      (each-checked kept entries are.1 (All-tail HasNumber e entries numbers)
      (All-tail (IsSoundShape (pages_of content)) (told e) (map told entries) shapes)
      (All-tail (IsSoundTree (pages_of content)) (told e) (map told entries) trees)
      (All-tail (HasExactPeriods (pages_of content) (periods_of content)) (told e) (map told entries) exact))

-- a file of inodes that has its shape has a root
pub each-rooted : (pages : Pages) (entries : List CheckpointEntry) → AreShaped pages (map told entries)
    → All HasRoot entries
each-rooted pages [] shapes = All-nil HasRoot
each-rooted pages (e ∷ entries) shapes =
    All-cons HasRoot e entries
    (by (root_told e.root)
    (let shape = All-head (IsSoundShape pages) (told e) (map told entries) shapes in (shape.0, shape.1)))
    (each-rooted pages entries (All-tail (IsSoundShape pages) (told e) (map told entries) shapes))
  where
    by : (o : Option layout.Root) → (root : Root) × (option_map root_of o ≡ Some root) → IsSome o
    by None told_root = let none = told_root.1 in cc
    by (Some root) told_root = refl

-- the latest checkpoint was checked, as all were
pub latest-checked : (content : Content) (t : Table) → All (IsChecked content) (all t)
    → IsChecked content t.latest
latest-checked content t each =
    All-last (IsChecked content) t.earlier t.latest (recursion_from_All (IsChecked content) (all t) each)

-- ---- condition 6

-- a store with the entries of an image has their periods
module _ (s : Segments) (latest : ℕ) (bytes : List ℕ) (numbers : List (Option DatEntry))
    (is : IsDatOf s latest bytes numbers)
    (store : Store) (shown : entries_shown store ≡ table_of numbers) where
  -- the entry of a number in use
  told-number : (v : ℕ) (n : Numbered) → numbered_in store v ≡ Some n
      → entry_told numbers v ≡ Some (dat_entry_of n)
  told-number v n at =
      ap (λ (table : List (Option DatEntry)). slice_index_or table v None) (sym shown)
      ∙ (get_or-map (option_map dat_entry_of) store.numbers v None ∙ ap (option_map dat_entry_of) at)

  record HasNumbered (v : ℕ) (e : Entry) : Type 0 where
    pub numbered : Numbered
    pub there : numbered_in store v ≡ Some numbered
    pub entry : numbered.entry ≡ e

  numbered-of : (v : ℕ) (e : Entry) → content_in store v ≡ Some e → HasNumbered v e
  numbered-of v e at = by (numbered_in store v) refl at
    where
      by : (o : Option Numbered) → numbered_in store v ≡ o → option_map entry_now o ≡ Some e → HasNumbered v e
      by None there at = cc
      by (Some n) there at = record { numbered = n; there = there; entry = inside_some n.entry e at }

  period-of : (v : ℕ) (e : Entry) → content_in store v ≡ Some e
      → HasPeriod latest (record { block = 0; start = e.start; end = e.end })
  period-of v e at =
      let n = numbered-of v e at in
      let p = (is.entries v (dat_entry_of n.numbered) (told-number v n.numbered n.there)).period in
      subst (λ (x : Entry). HasPeriod latest (record { block = 0; start = x.start; end = x.end })) n.entry
      (record { begins = p.begins; starts = p.starts; lasts = p.lasts; ends = p.ends })

  pub periods-bounded : IsBounded (content_in store) latest
  periods-bounded = record {
    begins = λ v e at. (period-of v e at).begins;
    starts = λ v e at. (period-of v e at).starts;
    lasts = λ v e c at. (period-of v e at).lasts c;
    ends = λ v e c at. (period-of v e at).ends c;
  }
