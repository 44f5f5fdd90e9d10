-- The image of a pen meets all conditions.
use Rattle.std.proofs.Common.{◌≡◌, ℕ, ◌<◌, ◌≤◌, ◌&&◌, true, leb, ltb, List, [], ◌∷◌, ◌++◌, get_or, length, map, Some, ap, sym, subst, ◌∙◌, arith, ltb-true, leb-true}
use Rattle.std.specs.Prelude.{All, AllPairs}
use Rattle.std.specs.List.{AllZip, list_all}
use Rattle.std.specs.Option.{option_map}
use Rattle.std.specs.FinMap.{is_sorted}
use Rattle.std.specs.FinMap.Entries.{below_all}
use Rattle.std.specs.Ordering.{is_lt, nat_cmp}
use Rattle.std.proofs.lemmas.Bool.{and_parts}
use Rattle.std.proofs.lemmas.List.Elements.{All-cons, All-head, All-nil, All-tail}
use Rattle.std.proofs.lemmas.List.Kept.{AllPairs-cons}
use Rattle.nl_types.specs.Blocks.Entries.{Content}
use Rattle.nl_types.specs.Blocks.Lifetimes.{IsBounded, IsExact}
use Rattle.nl_types.specs.Plain.Limits.{checkpoint_number_limit}
use Rattle.nl_types.specs.Blocks.Roots.{Pages, pages_of}
use Rattle.nl_types.specs.Plain.Worlds.{Copy, are_stamps_rising}
use Rattle.nl_types.specs.Facts.NumberedLists.{before-lt}
use Rattle.nl_layout.specs.Root.{root_of}
use Rattle.nl_layout.specs.declared.checkpoint_entry.CheckpointEntry.{CheckpointEntry}
use Rattle.nl_vstore.specs.Periods.{periods_of}
use Rattle.nl_vstore.specs.Stores.{IsStore, Store, content_in, entry_now}
use Rattle.nl_dat.specs.declared.entries.DatEntry.{DatEntry}
use Rattle.nl_dat.specs.Images.{HasPeriod, entry_told}
use Rattle.nl_dat.specs.Table.{numbers_shown}
use Rattle.nl_files.specs.CheckpointRoots.{IsTreeSound}
use Rattle.nl_check.specs.Conditions.{AreExact, AreShaped, AreTrees, HasExactPeriods, IsSoundShape, IsSoundTree, MeetsItsNumbers}
use Rattle.nl_check.specs.Judging.{told}
use Rattle.nl_check.specs.Laws.{MeetsAll, SoundCheckpointsMeetAll}
use Rattle.nl_check.specs.Trees.{IsTreeOf}
use Rattle.nl_cpfile.specs.declared.checkpoint.Checkpoint.{Checkpoint}
use Rattle.nl_cpfile.specs.Images.{HasNumber, IsEntryOf, Precedes}
use Rattle.nl_cpfile.specs.Tables.{checkpoint_root}
use Rattle.nl_image.specs.Laws.{AreKeptOver, StoreImagesAreImages, StoresHaveOneImage}
use Rattle.nl_image.specs.StoreImages.{IsSizedEntry}
use Rattle.nl_image.specs.Facts.StoreNumbers.{entry-of}
use Rattle.nl_core.specs.Private.Closed.{AreSized}
use Rattle.nl_commit.specs.Layout.{IsPen, Layout, layout_pages, reached_by}
use Rattle.nl_commit.specs.Means.{CopyMeans}
use Rattle.nl_core.specs.PenImages.{PenImagesAreImages, PensHaveOneImage}
use Rattle.nl_commit.specs.Volume.{kept_by}
use Rattle.nl_core.proofs.CheckedCopies.{HasTree}
use Rattle.nl_events.specs.Facts.KeptNumbers.{found-own}
use Rattle.nl_core.proofs.OpenedImages.{last-number}
use Rattle.nl_core.proofs.Opening.{told-whole}

-- ---- entries

-- there is one, the latest checkpoint's
some-entry : (earlier : List Checkpoint) (latest : Checkpoint) (entries : List CheckpointEntry)
    → AllZip IsEntryOf (earlier ++ latest ∷ []) entries → 1 ≤ length entries
some-entry [] latest [] are = absurd are
some-entry (c ∷ earlier) latest [] are = absurd are
some-entry earlier latest (e ∷ entries) are = omega arith

-- sized entries are entries
pub entries-of : (pages : Pages) (kept : List Checkpoint) (entries : List CheckpointEntry)
    → AreSized pages kept entries
    → AllZip IsEntryOf kept entries
entries-of pages [] [] sized = tt
entries-of pages [] (e ∷ entries) sized = absurd sized
entries-of pages (c ∷ kept) [] sized = absurd sized
entries-of pages (c ∷ kept) (e ∷ entries) sized = (sized.0.entry, entries-of pages kept entries sized.1)

-- ---- they rise, as the copies do that they tell of

record TellsCopy (e : CheckpointEntry) (copy : ℕ × Copy) : Type 0 where
  pub number : e.number ≡ copy.0
  pub stamp : e.stamp ≡ copy.1.stamp

tell-copies : (pages : Pages) (kept : List Checkpoint) (entries : List CheckpointEntry)
    (copies : List (ℕ × Copy))
    → AllZip IsEntryOf kept entries → AllZip (CopyMeans pages) kept copies → AllZip TellsCopy entries copies
tell-copies pages [] [] [] are means = tt
tell-copies pages [] (e ∷ entries) copies are means = absurd are
tell-copies pages [] [] (copy ∷ copies) are means = absurd means
tell-copies pages (c ∷ kept) [] copies are means = absurd are
tell-copies pages (c ∷ kept) (e ∷ entries) [] are means = absurd means
tell-copies pages (c ∷ kept) (e ∷ entries) (copy ∷ copies) are means = (
  record { number = are.0.number ∙ sym means.0.number; stamp = are.0.stamp ∙ sym means.0.stamp },
  tell-copies pages kept entries copies are.1 means.1,
)

-- the first precedes all others
precedes-all : (e : CheckpointEntry) (copy : ℕ × Copy) (entries : List CheckpointEntry)
    (copies : List (ℕ × Copy))
    → TellsCopy e copy → AllZip TellsCopy entries copies → below_all nat_cmp copy.0 copies ≡ true
    → list_all (λ (d : ℕ × Copy). leb copy.1.stamp d.1.stamp) copies ≡ true → All (Precedes e) entries
precedes-all e copy [] copies tells each below stamps = All-nil (Precedes e)
precedes-all e copy (f ∷ entries) [] tells each below stamps = absurd each
precedes-all e copy (f ∷ entries) (d ∷ copies) tells each below stamps =
    let numbers = and_parts (is_lt (nat_cmp copy.0 d.0)) (below_all nat_cmp copy.0 copies) below in
    let moments =
    and_parts (leb copy.1.stamp d.1.stamp)
    (list_all (λ (x : ℕ × Copy). leb copy.1.stamp x.1.stamp) copies) stamps in
    let less : copy.0 < d.0 = before-lt copy.0 d.0 numbers.0 in
    let low : copy.1.stamp ≤ d.1.stamp = leb-true copy.1.stamp d.1.stamp moments.0 in
    All-cons (Precedes e) f entries
    (record {
      number = omega (arith, less, tells.number, each.0.number);
      stamp = omega (arith, low, tells.stamp, each.0.stamp);
    })
    (precedes-all e copy entries copies tells each.1 numbers.1 moments.1)

each-precedes : (entries : List CheckpointEntry) (copies : List (ℕ × Copy)) → AllZip TellsCopy entries copies
    → is_sorted nat_cmp copies ≡ true → are_stamps_rising copies ≡ true → AllPairs Precedes entries
each-precedes [] copies each sorted stamps = λ i j d before within. absurd (omega (arith, within))
each-precedes (e ∷ entries) [] each sorted stamps = absurd each
each-precedes (e ∷ entries) (copy ∷ copies) each sorted stamps =
    let numbers = and_parts (below_all nat_cmp copy.0 copies) (is_sorted nat_cmp copies) sorted in
    let moments =
    and_parts (list_all (λ (d : ℕ × Copy). leb copy.1.stamp d.1.stamp) copies)
    (are_stamps_rising copies) stamps in
    AllPairs-cons Precedes e entries
    (precedes-all e copy entries copies each.0 each.1 numbers.0 moments.0)
    (each-precedes entries copies each.1 numbers.1 moments.1)

each-numbered : (entries : List CheckpointEntry) (copies : List (ℕ × Copy)) → AllZip TellsCopy entries copies
    → list_all (λ (c : ℕ × Copy). ltb 0 c.0 && ltb c.0 checkpoint_number_limit) copies ≡ true
    → All HasNumber entries
each-numbered [] copies each fit = All-nil HasNumber
each-numbered (e ∷ entries) [] each fit = absurd each
each-numbered (e ∷ entries) (copy ∷ copies) each fit =
    let parts = and_parts (ltb 0 copy.0 && ltb copy.0 checkpoint_number_limit)
    (list_all (λ (c : ℕ × Copy). ltb 0 c.0 && ltb c.0 checkpoint_number_limit) copies) fit in
    let bounds = and_parts (ltb 0 copy.0) (ltb copy.0 checkpoint_number_limit) parts.0 in
    let low : 0 < copy.0 = ltb-true 0 copy.0 bounds.0 in
    let high : copy.0 < checkpoint_number_limit = ltb-true copy.0 checkpoint_number_limit bounds.1 in
    All-cons HasNumber e entries
    (record { positive = omega (arith, low, each.0.number); limit = omega (arith, high, each.0.number) })
    (each-numbered entries copies each.1 parts.1)

-- ---- periods

-- those of a store's entries are those of its numbers
each-period : (store : Store) (latest : ℕ) → IsStore store → IsBounded (content_in store) latest
    → (v : ℕ) (e : DatEntry)
    → entry_told (numbers_shown store) v ≡ Some e → HasPeriod latest e
each-period store latest is bounded v e at =
    let n = entry-of store is v e at in
    let there = ap (option_map entry_now) n.1 in
    subst (HasPeriod latest) (sym n.2)
    (record {
      begins = bounded.begins v n.0.entry there;
      starts = bounded.starts v n.0.entry there;
      lasts = λ c ends. bounded.lasts v n.0.entry c there ends;
      ends = λ c ends. bounded.ends v n.0.entry c there ends;
    })

-- ---- what is judged of each checkpoint

-- each kept checkpoint stands for the tree of its copy
all-stand : (pages : Pages) (kept : List Checkpoint) (copies : List (ℕ × Copy))
    → AllZip (CopyMeans pages) kept copies
    → All (HasTree pages) kept
all-stand pages [] [] means = All-nil (HasTree pages)
all-stand pages [] (copy ∷ copies) means = absurd means
all-stand pages (c ∷ kept) [] means = absurd means
all-stand pages (c ∷ kept) (copy ∷ copies) means =
    All-cons (HasTree pages) c kept
    (record {
      holding = means.0.tree.held;
      holds = means.0.tree.holds;
      tree = copy.1.tree;
      means = record { means = means.0.tree.means.means; count = sym means.0.inodes };
    })
    (all-stand pages kept copies means.1)

-- a checkpoint is sound, reaches exactly its numbers, and stands for a tree
record IsWhole (content : Content) (c : Checkpoint) : Type 0 where
  pub sound : IsTreeSound (pages_of content) (root_of (checkpoint_root c))
  pub exact : IsExact content c.number (reached_by (pages_of content) c)
  pub tree : HasTree (pages_of content) c

module _ (meets_all : SoundCheckpointsMeetAll) (content : Content) where
  one-meets : (c : Checkpoint) (e : CheckpointEntry) → IsWhole content c → IsSizedEntry (pages_of content) c e
      → MeetsAll content c.number (root_of (checkpoint_root c)) e.size c.inodes
  one-meets c e whole sized =
      meets_all content c.number
      (root_of (checkpoint_root c)) e.size whole.tree.holding whole.tree.tree c.inodes whole.sound
      whole.tree.holds whole.tree.means sized.size whole.exact

  all-shaped : (kept : List Checkpoint) (entries : List CheckpointEntry) → All (IsWhole content) kept
      → AreSized (pages_of content) kept entries → AreShaped (pages_of content) (map told entries)
  all-shaped [] [] whole sized = All-nil (IsSoundShape (pages_of content))
  all-shaped [] (e ∷ entries) whole sized = absurd sized
  all-shaped (c ∷ kept) [] whole sized = absurd sized
  all-shaped (c ∷ kept) (e ∷ entries) whole sized =
      All-cons (IsSoundShape (pages_of content)) (told e) (map told entries) (
        root_of (checkpoint_root c),
        told-whole (pages_of content) c e sized.0.entry
            (All-head (IsWhole content) c kept whole).sound.inode_file,
        (one-meets c e (All-head (IsWhole content) c kept whole) sized.0).shaped,
      )
      (all-shaped kept entries (All-tail (IsWhole content) c kept whole) sized.1)

  all-trees : (kept : List Checkpoint) (entries : List CheckpointEntry) → All (IsWhole content) kept
      → AreSized (pages_of content) kept entries → AreTrees (pages_of content) (map told entries)
  all-trees [] [] whole sized = All-nil (IsSoundTree (pages_of content))
  all-trees [] (e ∷ entries) whole sized = absurd sized
  all-trees (c ∷ kept) [] whole sized = absurd sized
  all-trees (c ∷ kept) (e ∷ entries) whole sized =
      All-cons (IsSoundTree (pages_of content)) (told e) (map told entries) (
        root_of (checkpoint_root c),
        told-whole (pages_of content) c e sized.0.entry
            (All-head (IsWhole content) c kept whole).sound.inode_file,
        subst (IsTreeOf (pages_of content) (root_of (checkpoint_root c)) e.size) (sym sized.0.entry.inodes)
            (one-meets c e (All-head (IsWhole content) c kept whole) sized.0).tree,
      )
      (all-trees kept entries (All-tail (IsWhole content) c kept whole) sized.1)

  all-exact : (kept : List Checkpoint) (entries : List CheckpointEntry) → All (IsWhole content) kept
      → AreSized (pages_of content) kept entries
      → AreExact (pages_of content) (periods_of content) (map told entries)
  all-exact [] [] whole sized = All-nil (HasExactPeriods (pages_of content) (periods_of content))
  all-exact [] (e ∷ entries) whole sized = absurd sized
  all-exact (c ∷ kept) [] whole sized = absurd sized
  all-exact (c ∷ kept) (e ∷ entries) whole sized =
      All-cons (HasExactPeriods (pages_of content) (periods_of content)) (told e) (map told entries) (
        root_of (checkpoint_root c),
        told-whole (pages_of content) c e sized.0.entry
            (All-head (IsWhole content) c kept whole).sound.inode_file,
        subst
            (λ (n : ℕ).
            MeetsItsNumbers (pages_of content) (periods_of content) n (root_of (checkpoint_root c)))
            (sym sized.0.entry.number)
            (one-meets c e (All-head (IsWhole content) c kept whole) sized.0).exact,
      )
      (all-exact kept entries (All-tail (IsWhole content) c kept whole) sized.1)

-- ---- a pen

-- each kept checkpoint of a pen is whole
kept-whole : (l : Layout) → IsPen l → All (IsWhole (content_in l.store)) (kept_by l.lists)
kept-whole l pen i d low =
    let c : Checkpoint = get_or (kept_by l.lists) i d in
    let means = pen.world.1 in
    let at =
    found-own (layout_pages l)
    (kept_by l.lists) pen.world.0.copies means.copies means.world.numbers_rise i d low in
    record {
      sound = pen.sound.trees_sound i d low;
      exact =
          pen.sound.ledger.exact c.number (reached_by (layout_pages l) c)
          (ap (option_map (reached_by (layout_pages l))) at);
      tree = all-stand (layout_pages l) (kept_by l.lists) pen.world.0.copies means.copies i d low;
    }

-- so what the store doesn't tell of its checkpoints is as it has to be
pub are-kept : SoundCheckpointsMeetAll → (l : Layout) (entries : List CheckpointEntry) → IsPen l
    → AreSized (layout_pages l) (kept_by l.lists) entries → AreKeptOver l.store entries
are-kept meets_all l entries pen sized =
    let means = pen.world.1 in
    let are = entries-of (layout_pages l) (kept_by l.lists) entries sized in
    let tell = tell-copies (layout_pages l) (kept_by l.lists) entries pen.world.0.copies are means.copies in
    let whole = kept-whole l pen in
    record {
      some = some-entry l.lists.table.earlier l.lists.table.latest entries are;
      rise = record {
        rising =
            each-precedes entries pen.world.0.copies tell means.world.numbers_rise means.world.stamps_rise;
        numbers = each-numbered entries pen.world.0.copies tell means.world.numbers_fit;
      };
      periods = λ v e at.
          subst (λ (n : ℕ). HasPeriod n e)
          (sym (last-number l.lists.table.earlier l.lists.table.latest entries are))
          (each-period l.store l.lists.table.latest.number pen.sound.store pen.sound.ledger.bounded v e at);
      shaped = all-shaped meets_all (content_in l.store) (kept_by l.lists) entries whole sized;
      trees = all-trees meets_all (content_in l.store) (kept_by l.lists) entries whole sized;
      exact = all-exact meets_all (content_in l.store) (kept_by l.lists) entries whole sized;
    }

pub pen_images_are_images : SoundCheckpointsMeetAll → StoreImagesAreImages → PenImagesAreImages
pen_images_are_images meets_all are_images l bytes pen image =
    are_images l.store (kept_by l.lists) bytes pen.sound.store image
    (are-kept meets_all l image.entries pen image.are.sized)

pub pens_have_one_image : SoundCheckpointsMeetAll → StoresHaveOneImage → PensHaveOneImage
pens_have_one_image meets_all one l bytes other pen image other_image =
    one l.store (kept_by l.lists) bytes other image
    (are-kept meets_all l image.entries pen image.are.sized).shaped other_image
