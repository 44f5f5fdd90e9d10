-- What was read of an image, against the store that is made of it.
use Rattle.std.proofs.Common.{◌≡◌, ◌∙◌, ℕ, suc, ◌+◌, ◌-◌, ◌≤◌, List, [], ◌∷◌, ◌++◌, length, map, slice_get, slice_index_or, Option, None, Some, ap, sym, refl, subst, arith}
use Rattle.std.specs.Prelude.{All}
use Rattle.std.specs.List.{AllZip}
use Rattle.std.specs.Option.{option_and_then, option_map, option_map_or}
use Rattle.std.proofs.Math.ListN.{get_or-map}
use Rattle.nl_types.specs.Blocks.Entries.{Entry, period_of}
use Rattle.nl_types.specs.Blocks.Lifetimes.{IsBounded}
use Rattle.nl_types.specs.Blocks.Roots.{Pages, pages_of}
use Rattle.nl_types.specs.Blocks.Segments.{IsUsed}
use Rattle.nl_layout.specs.declared.checkpoint_entry.CheckpointEntry.{CheckpointEntry}
use Rattle.nl_vstore.specs.Periods.{Periods, periods_of}
use Rattle.nl_vstore.specs.Stores.{IsStore, Numbered, Store, content_in, entry_now, numbered_in}
use Rattle.nl_vstore.specs.Facts.StoredLogs.{one_list_stands}
use Rattle.nl_segwriter.specs.Images.{page_in}
use Rattle.nl_dat.specs.declared.entries.DatEntry.{DatEntry}
use Rattle.nl_dat.specs.Images.{entry_told, table_of}
use Rattle.nl_dat.specs.Table.{dat_entry_of, entries_shown, entry_in, period_of_entry}
use Rattle.nl_cpfile.specs.declared.checkpoint.Checkpoint.{Checkpoint}
use Rattle.nl_cpfile.specs.Images.{HasRoot, IsEntryOf}
use Rattle.nl_cpfile.specs.Tables.{IsTable, Table, all}
use Rattle.nl_check.specs.Conditions.{AreExact, AreShaped, AreTrees}
use Rattle.nl_check.specs.Judging.{told}
use Rattle.nl_image.specs.declared.reading.ReadImage.{ReadImage}
use Rattle.nl_image.specs.Conditions.{HasCheckpoints, HasLogs, HasNumbers, HasPeriods, HasShapes, HasTrees, blocks_told, latest_told, number_of_last, pages_told, periods_told}
use Rattle.nl_image.specs.Parts.{Parts, dat_in}
use Rattle.nl_image.specs.Reading.{HaveOwn, IsReadImage}
use Rattle.nl_image.specs.Facts.OnePayload.{own_by_both, used_page}
use Rattle.nl_commit.specs.Layout.{layout_of}
use Rattle.nl_commit.specs.Volume.{Lists}
use Rattle.nl_events.specs.Opened.{opened_lists}
use Rattle.nl_core.specs.Opened.{CheckedCheckpointsHaveInodes, IsAtRest, IsChecked, IsOpened, IsRestoredStore}
use Rattle.nl_core.proofs.Opening.{each-checked, each-rooted, latest-checked, periods-bounded}

last-behind : (e f : CheckpointEntry) (kept : List CheckpointEntry)
    → number_of_last (e ∷ f ∷ kept) ≡ number_of_last (f ∷ kept)
last-behind e f kept =
    ap (λ (i : ℕ). option_map_or (λ (c : CheckpointEntry). c.number) (slice_get (e ∷ f ∷ kept) i) 0) front
    ∙ ap (λ (i : ℕ). option_map_or (λ (c : CheckpointEntry). c.number) (slice_get (f ∷ kept) i) 0) back
  where
    front : length (e ∷ f ∷ kept) - 1 ≡ suc (length kept)
    front = omega arith

    back : length kept ≡ length (f ∷ kept) - 1
    back = omega arith

-- the last entry is that of the latest checkpoint
pub last-number : (earlier : List Checkpoint) (latest : Checkpoint) (kept : List CheckpointEntry)
    → AllZip IsEntryOf (earlier ++ latest ∷ []) kept → number_of_last kept ≡ latest.number
last-number [] latest [] are = absurd are
last-number [] latest (e ∷ []) are = are.0.number
last-number [] latest (e ∷ f ∷ kept) are = absurd are.1
last-number (c ∷ earlier) latest [] are = absurd are
last-number (c ∷ []) latest (e ∷ []) are = absurd are.1
last-number (c ∷ d ∷ earlier) latest (e ∷ []) are = absurd are.1
last-number (c ∷ earlier) latest (e ∷ f ∷ kept) are =
    last-behind e f kept ∙ last-number earlier latest (f ∷ kept) are.1

-- what is opened is at rest, where the latest checkpoint has an inode
at-rest : (t : Table) (lists : Lists) → lists ≡ opened_lists t → 1 ≤ t.latest.inodes → IsAtRest lists
at-rest t lists same rooted =
    let names : t.latest.inodes - 1 + 1 ≡ t.latest.inodes = omega (arith, rooted) in
    subst IsAtRest (sym same) (record {
      clean = refl;
      unchanged = refl;
      none_freed = refl;
      unmarked = refl;
      names = names;
      unmounted = refl;
      none_given = refl;
    })

module _ (bytes : List ℕ) (r : ReadImage) (is : IsReadImage bytes r) where
  abbrev p : Parts
  p = is.parts

  cpfile : HasCheckpoints bytes p
  cpfile = is.image.1.1.1.1.0

  dat : HasNumbers bytes p
  dat = is.image.1.1.1.1.1.0

  logs : HasLogs bytes p
  logs = is.image.1.1.1.1.1.1.0

  shapes : HasShapes bytes p
  shapes = is.image.1.1.1.1.1.1.1.0

  trees : HasTrees bytes p
  trees = is.image.1.1.1.1.1.1.1.1.0

  periods : HasPeriods bytes p
  periods = is.image.1.1.1.1.1.1.1.1.1.0

  pub kept-rooted : All HasRoot r.kept
  kept-rooted = subst (All HasRoot) (sym is.kept) (each-rooted (pages_told bytes p) p.kept shapes)

  -- the payload that was read is the numbers' own too
  pub own-read : HaveOwn r.numbers r.logs.payload
  own-read v e at =
      let there : entry_told p.numbers v ≡ Some e =
      ap (λ (table : List (Option DatEntry)). entry_in table v) (sym is.numbers) ∙ at in
      own_by_both one_list_stands p.segments
      (blocks_told bytes p) r.logs.pages is.logs.pages r.logs.payload logs.payload
      is.logs.logs logs.whole v e (dat.entries v e there).used (logs.own v e there)

  module _ (store : Store) (made : IsRestoredStore r.segments r.logs r.numbers store)
      (sound : IsStore store) where
    pub numbers-shown : entries_shown store ≡ table_of p.numbers
    numbers-shown = made.shown ∙ is.numbers

    told-at : (v : ℕ) → entry_told p.numbers v ≡ option_map dat_entry_of (numbered_in store v)
    told-at v =
        ap (λ (table : List (Option DatEntry)). slice_index_or table v None) (sym numbers-shown)
        ∙ get_or-map (option_map dat_entry_of) store.numbers v None

    page-told : (v : ℕ) (n : Numbered) → numbered_in store v ≡ Some n
        → blocks_told bytes p n.block ≡ Some n.entry.page
    page-told v n there =
        let at : entry_told p.numbers v ≡ Some (dat_entry_of n) =
        told-at v ∙ ap (option_map dat_entry_of) there in
        let used : IsUsed p.segments n.block = (dat.entries v (dat_entry_of n) at).used in
        let page = used_page p.segments (page_in r.logs.pages) r.logs.payload is.logs.logs n.block used in
        sym (is.logs.pages.used n.block used)
        ∙ (page.1 ∙ (sym (made.stored n.block page.0 page.1) ∙ sound.on_device v n there))

    pub pages-are : pages_told bytes p ≡ pages_of (content_in store)
    pages-are = λ i v. at v i
      where
        by : (v : ℕ) (o : Option Numbered) → numbered_in store v ≡ o
            → option_and_then (λ (e : DatEntry). blocks_told bytes p e.block) (option_map dat_entry_of o)
            ≡ option_map (λ (e : Entry). e.page) (option_map entry_now o)
        by v None there = refl
        by v (Some n) there = page-told v n there

        at : (v : ℕ) → pages_told bytes p v ≡ pages_of (content_in store) v
        at v =
            ap (option_and_then (λ (e : DatEntry). blocks_told bytes p e.block)) (told-at v)
            ∙ by v (numbered_in store v) refl

    periods-are : periods_told p ≡ periods_of (content_in store)
    periods-are = λ i v. at v i
      where
        by : (o : Option Numbered)
            → option_map period_of_entry (option_map dat_entry_of o)
            ≡ option_map period_of (option_map entry_now o)
        by None = refl
        by (Some n) = refl

        at : (v : ℕ) → periods_told p v ≡ periods_of (content_in store) v
        at v = ap (option_map period_of_entry) (told-at v) ∙ by (numbered_in store v)

    exact : AreExact (pages_of (content_in store)) (periods_of (content_in store)) (map told p.kept)
    exact =
        subst (λ (qs : Periods). AreExact (pages_of (content_in store)) qs (map told p.kept)) periods-are
        (subst (λ (ps : Pages). AreExact ps (periods_told p) (map told p.kept)) pages-are periods)

    module _ (t : Table) (are : AllZip IsEntryOf (all t) r.kept) where
      pub told-entries : AllZip IsEntryOf (all t) p.kept
      told-entries = subst (AllZip IsEntryOf (all t)) is.kept are

      pub each-was-checked : All (IsChecked (content_in store)) (all t)
      each-was-checked =
          each-checked (content_in store) (all t) p.kept told-entries cpfile.rise.numbers
          (subst (λ (ps : Pages). AreShaped ps (map told p.kept)) pages-are shapes)
          (subst (λ (ps : Pages). AreTrees ps (map told p.kept)) pages-are trees) exact

      pub latest-was-checked : IsChecked (content_in store) t.latest
      latest-was-checked = latest-checked (content_in store) t each-was-checked

      bounded : IsBounded (content_in store) t.latest.number
      bounded =
          subst (IsBounded (content_in store)) (last-number t.earlier t.latest p.kept told-entries)
          (periods-bounded p.segments (latest_told p)
          (dat_in p.shape bytes) p.numbers dat store numbers-shown)

      pub opened-rest : CheckedCheckpointsHaveInodes → (lists : Lists) → lists ≡ opened_lists t
          → IsAtRest lists
      opened-rest have lists same =
          at-rest t lists same (have (content_in store) t.latest latest-was-checked)

      pub is-opened : CheckedCheckpointsHaveInodes → (lists : Lists) → lists ≡ opened_lists t
          → IsTable lists.table
          → IsOpened (layout_of lists store)
      is-opened have lists same table =
          let at : lists.table ≡ t = ap (λ (l : Lists). l.table) same in record {
            store = sound;
            periods = subst (λ (u : Table). IsBounded (content_in store) u.latest.number) (sym at) bounded;
            table = table;
            checked =
                subst (λ (u : Table). All (IsChecked (content_in store)) (all u)) (sym at) each-was-checked;
            rest = opened-rest have lists same;
          }
