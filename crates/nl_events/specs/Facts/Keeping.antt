-- Kept checkpoints from one layout to the next: their roots, places, pages and trees.
use Rattle.std.proofs.Common.{◌≡◌, ℕ, Bool, true, false, List, Some, refl, ap, sym, subst, ◌∙◌}
use Rattle.std.specs.Option.{option_map}
use Rattle.nl_types.specs.declared.event.Mode.{Mode}
use Rattle.nl_types.specs.Blocks.Entries.{Entry, Place}
use Rattle.nl_types.specs.Blocks.Lifetimes.{StillCovers}
use Rattle.nl_types.specs.Blocks.Roots.{Pages}
use Rattle.nl_types.specs.Plain.NumberLists.{is_one_of}
use Rattle.nl_layout.specs.Root.{root_of}
use Rattle.nl_layout.specs.declared.root.Root.{Root}
use Rattle.nl_vstore.specs.Stores.{content_in}
use Rattle.nl_blocktree.specs.Checkpoints.{numbers_of}
use Rattle.nl_files.specs.CheckpointRoots.{IsTreeSound, roots_at}
use Rattle.nl_files.specs.Staying.{CheckpointStays}
use Rattle.nl_files.specs.Facts.Staying.{checkpoints-stay}
use Rattle.nl_cpfile.specs.Tables.{Table, all, kept_at, moded, checkpoint_root, with_mode, with_next, without}
use Rattle.nl_cpfile.specs.declared.checkpoint.Checkpoint.{Checkpoint}
use Rattle.nl_cpfile.specs.Facts.Found.{found-push}
use Rattle.nl_commit.specs.Commits.{KeepsCheckpoint, KeepsCheckpoints}
use Rattle.nl_commit.specs.Layout.{IsPen, KeepsNumbers, Layout, layout_pages, reached_by}
use Rattle.nl_commit.specs.Means.{RootMeans}
use Rattle.nl_commit.specs.Notes.{shown_of}
use Rattle.nl_commit.specs.Shown.{pages_shown}
use Rattle.nl_commit.specs.Volume.{kept_by}
use Rattle.nl_commit.specs.Facts.Events.{copy_of}
use Rattle.nl_events.specs.Facts.Ledgers.{found-all}
use Rattle.nl_commit.specs.Facts.ShownNumbers.{pages-shown}
use Rattle.nl_events.specs.Facts.TableChanges.{kept-with_mode, kept-without, moded-same, unless}

-- ---- which roots there are

-- a checkpoint that is kept before and after has its root
abbrev pub KeepsRoots : Table → Table → Type 0
KeepsRoots old new =
    (n : ℕ) (c d : Checkpoint) → kept_at n old ≡ Some c → kept_at n new ≡ Some d
    → checkpoint_root d ≡ checkpoint_root c

pub roots-same : (t : Table) → KeepsRoots t t
roots-same t n c d before now =
    let both : Some d ≡ Some c = sym now ∙ before in
    let one : d ≡ c = cc in
    ap checkpoint_root one

pub roots-moded : (n : ℕ) (mode : Mode) (t : Table) → KeepsRoots t (with_mode n mode t)
roots-moded n mode t m c d before now =
    let both : Some d ≡ Some (moded n mode c) =
    sym now ∙ (kept-with_mode n mode t m ∙ ap (option_map (moded n mode)) before) in
    let one : d ≡ moded n mode c = cc in
    ap checkpoint_root one ∙ moded-same checkpoint_root n mode c refl

pub roots-without : (gone : List ℕ) (t : Table) → is_one_of gone t.latest.number ≡ false
    → KeepsRoots t (without gone t)
roots-without gone t stays n c d before now =
    by (is_one_of gone n) (sym (kept-without gone t stays n ∙ ap (unless (is_one_of gone n)) before) ∙ now)
  where
    by : (b : Bool) → unless b (Some c) ≡ Some d → checkpoint_root d ≡ checkpoint_root c
    by true is = cc
    by false is = let one : c ≡ d = cc in ap checkpoint_root (sym one)

pub roots-next : (k : Checkpoint) (t : Table) → KeepsRoots t (with_next k t)
roots-next k t n c d before now =
    let found_now : Some c ≡ kept_at n (with_next k t) = found-push n (all t) k (Some c) before in
    let both : Some c ≡ Some d = found_now ∙ now in
    let one : c ≡ d = cc in
    ap checkpoint_root (sym one)

-- ---- a checkpoint that is kept on

module _ (old new : Layout) (pen : IsPen old) (numbers : KeepsNumbers old new) (n : ℕ) (c d : Checkpoint)
    (before : kept_at n old.lists.table ≡ Some c) (now : kept_at n new.lists.table ≡ Some d)
    (same : checkpoint_root d ≡ checkpoint_root c) where
  -- the pages stay where it reaches
  pages-stay : (q : Place) (v : ℕ) → reached_by (layout_pages old) c q ≡ Some v
      → layout_pages new v ≡ layout_pages old v
  pages-stay q v reaches =
      let kept = ap (option_map (reached_by (layout_pages old))) before in
      let (e, in_use, covering) =
      (pen.sound.ledger.exact n (reached_by (layout_pages old) c) kept).reached q v reaches in
      let still : StillCovers (content_in new.store) n v e =
      numbers.covered n (reached_by (layout_pages old) c) (reached_by (layout_pages new) d) v e kept
      (ap (option_map (reached_by (layout_pages new))) now) in_use covering in
      ap (option_map (λ (x : Entry). x.page)) still.in_use
      ∙ ap Some still.page
      ∙ sym (ap (option_map (λ (x : Entry). x.page)) in_use)

  abbrev root : Root
  root = checkpoint_root c

  stays : CheckpointStays (layout_pages old) (layout_pages new) (root_of root)
  stays =
      let copy = copy_of (layout_pages old) old.lists pen.world.0 n (Some c) pen.world.1 before in
      checkpoints-stay (layout_pages old) (layout_pages new) (root_of root) copy.2.tree.held
      (found-all (λ (k : Checkpoint). IsTreeSound (layout_pages old) (root_of (checkpoint_root k))) n
      (kept_by old.lists) c pen.sound.trees_sound before)
      copy.2.tree.holds
      (λ i level offset v at. pages-stay (record { inode = i; level = level; offset = offset }) v at)

  pub keeps-one : KeepsCheckpoint (layout_pages old) (layout_pages new) c d
  keeps-one = record {
    root = same;
    places =
        ap (λ (r : Root). numbers_of (layout_pages new) (roots_at (layout_pages new) (root_of r))) same
        ∙ stays.numbers;
    pages = pages-stay;
    trees = λ t means. subst (λ (r : Root). RootMeans (layout_pages new) r t) (sym same) (record {
      held = means.held;
      holds = record { stores = stays.stores means.held means.holds.stores; sound = means.holds.sound };
      means = means.means;
    });
  }

-- each of them is, where numbers stay and roots do
pub keeps-checkpoints : (old new : Layout) → IsPen old → KeepsNumbers old new
    → KeepsRoots old.lists.table new.lists.table
    → KeepsCheckpoints (shown_of old) (shown_of new)
keeps-checkpoints old new pen numbers roots n c d before now =
    subst (λ (pages : Pages). KeepsCheckpoint pages (pages_shown (shown_of new)) c d) (sym (pages-shown old))
    (subst (λ (more : Pages). KeepsCheckpoint (layout_pages old) more c d) (sym (pages-shown new))
    (keeps-one old new pen numbers n c d before now (roots n c d before now)))
