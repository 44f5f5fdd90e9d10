-- What moves and retirements leave of a pen.
use Rattle.std.proofs.Common.{◌≡◌, ℕ, Bool, cond, List, [], ◌∷◌, get_or, Option, Some, None, refl, ap, sym, subst, ◌∙◌, inl, inr, arith, zero, suc}
use Rattle.std.specs.Prelude.{All}
use Rattle.std.specs.List.{AllZip}
use Rattle.std.specs.Option.{option_map}
use Rattle.std.proofs.lemmas.Bool.{both_ways, cases_Bool}
use Rattle.std.proofs.lemmas.List.Elements.{All-weaker}
use Rattle.nl_types.specs.declared.error.VolError.{VolError}
use Rattle.nl_types.specs.declared.error.VolError.TheVariants.{Fault, Memory, NoSpace}
use Rattle.nl_types.specs.Blocks.Entries.{Content, Entry, covers}
use Rattle.nl_types.specs.Blocks.Lifetimes.{Allowed, EndsOnce, IsLedger, KeepsCovered, Ledger, Frees, ledger_after}
use Rattle.nl_types.specs.Blocks.Roots.{pages_of}
use Rattle.nl_types.specs.Plain.Worlds.{World, Copy}
use Rattle.nl_types.specs.Facts.ExactLifetimes.{covered_kept_all, ends_once, ledger_after-IsLedger}
use Rattle.nl_layout.specs.Root.{root_of}
use Rattle.nl_vstore.specs.Stores.{IsMoveRefused, IsReclaimed, IsStore, Numbered, Store, content_in, entry_now}
use Rattle.nl_tree.specs.Held.{Holding}
use Rattle.nl_files.specs.CheckpointTrees.{HoldsTree}
use Rattle.nl_files.specs.CheckpointRoots.{IsTreeSound}
use Rattle.nl_files.specs.Staying.{AgreeAtCheckpoint, CheckpointStays}
use Rattle.nl_files.specs.Facts.Staying.{checkpoints-stay}
use Rattle.nl_cpfile.specs.Tables.{kept_at, checkpoint_root}
use Rattle.nl_cpfile.specs.declared.checkpoint.Checkpoint.{Checkpoint}
use Rattle.nl_cpfile.specs.Facts.Found.{found}
use Rattle.nl_reclaim.specs.Moves.{needed_now}
use Rattle.nl_reclaim.specs.Reclaims.{stood_in}
use Rattle.nl_reclaim.specs.Facts.Reclaims.{retired-segments-are-unreached, retiring-is-allowed}
use Rattle.nl_events.specs.CleanedPens.{LeavesPen, MovesKeepPens, RefusedMovesKeepPens, RetirementsKeepPens, StaysPen, kept_store}
use Rattle.nl_commit.specs.Layout.{IsPen, IsSoundPen, KeepsNumbers, Layout, MeansWorld, layout_of, ledger_of, layout_pages, reached_by}
use Rattle.nl_commit.specs.Means.{CopyMeans, Means}
use Rattle.nl_commit.specs.Volume.{Lists, kept_by}
use Rattle.nl_events.specs.Facts.KeptNumbers.{found-own, kept-ledger}
use Rattle.nl_events.specs.Facts.Ledgers.{found-all, same-numbers}
use Rattle.nl_events.specs.Facts.Published.{copies-stay}

-- ---- the same content

module _ (old : Layout) (store : Store) (same : content_in store ≡ content_in old.store) where
  abbrev moved_layout : Layout
  moved_layout = layout_of old.lists store

  -- the ledger over a content
  abbrev ledger_with : Content → Ledger
  ledger_with content = record {
    content = content;
    latest = old.lists.table.latest.number;
    kept = λ c. option_map (reached_by (pages_of content)) (kept_at c old.lists.table);
  }

  same_ledger : ledger_of moved_layout ≡ ledger_of old
  same_ledger = ap ledger_with same

  same_means : (w : World) → MeansWorld old w → MeansWorld moved_layout w
  same_means w means = subst (λ (content : Content). Means (pages_of content) old.lists w) (sym same) means

  stays-content : IsPen old → IsStore store → StaysPen old moved_layout
  stays-content pen is_store = record {
    pen = record {
      world = (pen.world.0, same_means pen.world.0 pen.world.1);
      sound = record {
        ledger = subst IsLedger (sym same_ledger) pen.sound.ledger;
        trees_sound =
            subst (λ (content : Content).
            All (λ (c : Checkpoint). IsTreeSound (pages_of content) (root_of (checkpoint_root c)))
            (kept_by old.lists))
            (sym same) pen.sound.trees_sound;
        latest = pen.sound.latest;
        last = pen.sound.last;
        store = is_store;
      };
    };
    ledger = same_ledger;
    numbers = same-numbers old moved_layout same_ledger;
    means = same_means;
  }

-- a layout of the same lists
same_lists : (old new : Layout) → new.lists ≡ old.lists → new ≡ layout_of old.lists new.store
same_lists old new lists = ap (λ (ls : Lists). layout_of ls new.store) lists

-- where numbers stand for the same, and the lists stay
pub same-content : (old new : Layout) → IsPen old → new.lists ≡ old.lists → IsStore new.store
    → content_in new.store ≡ content_in old.store → StaysPen old new
same-content old new pen lists is_store same =
    subst (λ (l : Layout). StaysPen old l) (sym (same_lists old new lists))
    (stays-content old new.store same pen is_store)

pub moves_keep_pens : MovesKeepPens
moves_keep_pens segment checkpoint stamp numbers old new pen lists is_store moved =
    same-content old new pen lists is_store moved.content

-- the same numbers have the same content
pub content-of : (old new : Store) → new.numbers ≡ old.numbers → content_in new ≡ content_in old
content-of old new same =
    ap (λ (numbers : List (Option Numbered)). λ (v : ℕ). option_map entry_now (get_or numbers v None)) same

pub refused-numbers : (checkpoint stamp : ℕ) (numbers : List ℕ) (e : VolError) (old new : Store)
    → IsMoveRefused checkpoint stamp numbers old new e → new.numbers ≡ old.numbers
refused-numbers checkpoint stamp numbers NoSpace old new refused = refused.1.numbers
refused-numbers checkpoint stamp numbers Memory old new refused = refused.numbers
refused-numbers checkpoint stamp numbers Fault old new (inl read) = read.stored_stays.numbers
refused-numbers checkpoint stamp numbers Fault old new (inr (payload, theirs, fault)) = fault.numbers
refused-numbers checkpoint stamp numbers e old new refused = absurd refused

pub refused_moves_keep_pens : RefusedMovesKeepPens
refused_moves_keep_pens checkpoint stamp numbers e old new pen lists is_store refused =
    same-content old new pen lists is_store
    (content-of old.store new.store (refused-numbers checkpoint stamp numbers e old.store new.store refused))

-- ---- numbers that are taken out

-- each kept checkpoint holds something
pub all-held : (l : Layout) (kept : List Checkpoint) (copies : List (ℕ × Copy))
    → AllZip (CopyMeans (layout_pages l)) kept copies
    → All
    (λ (c : Checkpoint). (held : Holding) × HoldsTree (layout_pages l) (root_of (checkpoint_root c)) held)
    kept
all-held l [] copies means i d low = absurd (omega (arith, low))
all-held l (c ∷ kept) [] means i d low = absurd means
all-held l (c ∷ kept) (copy ∷ copies) means zero d low = (means.0.tree.held, means.0.tree.holds)
all-held l (c ∷ kept) (copy ∷ copies) means (suc i) d low =
    all-held l kept copies means.1 i d (omega (arith, low))

module _ (segment count : ℕ) (old : Layout) (store : Store) (pen : IsPen old) (is_store : IsStore store)
    (none : needed_now (kept_store old) segment ≡ [])
    (reclaimed : IsReclaimed segment count old.store store) where
  abbrev left_layout : Layout
  left_layout = layout_of old.lists store

  abbrev gone : ℕ → Bool
  gone = stood_in old.store segment

  abbrev StaysHere : Checkpoint → Type 0
  StaysHere c = CheckpointStays (layout_pages old) (layout_pages left_layout) (root_of (checkpoint_root c))

  parts : Allowed (Frees gone) (ledger_of old)
      × ((v : ℕ) → content_in store v ≡ cond (gone v) None (content_in old.store v))
  parts =
      retiring-is-allowed segment count (ledger_of old) (kept_store old)
      (kept_store left_layout) pen.sound.store
      (kept-ledger old) none reclaimed

  -- pages stay at every number that a kept checkpoint reaches
  agree : (c : Checkpoint) → found c.number (kept_by old.lists) ≡ Some c
      → AgreeAtCheckpoint (layout_pages old) (layout_pages left_layout) (root_of (checkpoint_root c))
  agree c at i level offset v is =
      let numbers : (ledger_of old).kept c.number ≡ Some (reached_by (layout_pages old) c) =
      ap (option_map (reached_by (layout_pages old))) at in
      let (e, in_use, covering) =
      (pen.sound.ledger.exact c.number (reached_by (layout_pages old) c) numbers).reached
      (record { inode = i; level = level; offset = offset }) v is in
      elim (cases_Bool (gone v)) [
        | inl t ↦
            absurd (both_ways (covers c.number e)
            (parts.0 v e c.number (reached_by (layout_pages old) c) t in_use numbers) covering)
        | inr t ↦
            ap (option_map (λ (x : Entry). x.page))
            (parts.1 v ∙ ap (λ b. cond b None (content_in old.store v)) t)
      ]

  kept-left : All StaysHere (kept_by old.lists)
  kept-left i d low =
      let c = get_or (kept_by old.lists) i d in
      let means = pen.world.1 in
      let holds = all-held old (kept_by old.lists) pen.world.0.copies means.copies i d low in
      checkpoints-stay (layout_pages old) (layout_pages left_layout) (root_of (checkpoint_root c)) holds.0
      (pen.sound.trees_sound i d low) holds.1
      (agree c (found-own (layout_pages old)
      (kept_by old.lists) pen.world.0.copies means.copies means.world.numbers_rise i d low))

  -- ---- the ledger

  same-kept : (n : ℕ) (o : Option Checkpoint) → found n (kept_by old.lists) ≡ o
      → option_map (reached_by (layout_pages left_layout)) o ≡ option_map (reached_by (layout_pages old)) o
  same-kept n None at = refl
  same-kept n (Some c) at = ap Some (found-all StaysHere n (kept_by old.lists) c kept-left at).numbers

  ledger-left : ledger_of left_layout ≡ ledger_after (Frees gone) (ledger_of old)
  ledger-left i = record {
    content = λ v. parts.1 v i;
    latest = old.lists.table.latest.number;
    kept = λ n. same-kept n (found n (kept_by old.lists)) refl i;
  }

  numbers-left : KeepsNumbers old left_layout
  numbers-left = record {
    covered = subst (KeepsCovered (ledger_of old)) (sym ledger-left)
        (covered_kept_all (Frees gone ∷ []) (ledger_of old) pen.sound.ledger (parts.0, tt));
    ends =
        subst (EndsOnce (ledger_of old)) (sym ledger-left) (ends_once (Frees gone) (ledger_of old) parts.0);
  }

  -- ---- the pen

  latest-left : StaysHere old.lists.table.latest
  latest-left =
      found-all StaysHere old.lists.table.latest.number
      (kept_by old.lists) old.lists.table.latest kept-left pen.sound.latest

  means-left : (w : World) → MeansWorld old w → MeansWorld left_layout w
  means-left w means = record {
    world = means.world;
    tree = record {
      base = means.tree.base;
      holds = record {
        stores = latest-left.stores means.tree.base means.tree.holds.stores;
        sound = means.tree.holds.sound;
      };
      stands = means.tree.stands;
    };
    dirty = means.dirty;
    copies =
        copies-stay (layout_pages old) (layout_pages left_layout)
        (kept_by old.lists) w.copies kept-left means.copies;
    mounts = means.mounts;
    given = means.given;
  }

  sound-left : IsSoundPen left_layout
  sound-left = record {
    ledger =
        subst IsLedger (sym ledger-left)
        (ledger_after-IsLedger (Frees gone) (ledger_of old) pen.sound.ledger parts.0);
    trees_sound =
        All-weaker StaysHere
        (λ (c : Checkpoint). IsTreeSound (layout_pages left_layout) (root_of (checkpoint_root c)))
        (λ c stays. stays.sound)
        (kept_by old.lists) kept-left;
    latest = pen.sound.latest;
    last = pen.sound.last;
    store = is_store;
  }

  leaves-left : LeavesPen segment old left_layout
  leaves-left = record {
    allowed = parts.0;
    unreached = λ c v q numbers kept reaches.
        retired-segments-are-unreached segment c v q numbers (ledger_of old) (kept_store old)
        pen.sound.store (kept-ledger old) pen.sound.ledger.exact none kept reaches;
    ledger = ledger-left;
    pen = record { world = (pen.world.0, means-left pen.world.0 pen.world.1); sound = sound-left };
    numbers = numbers-left;
    means = means-left;
  }

pub retirements_keep_pens : RetirementsKeepPens
retirements_keep_pens segment count old new pen lists is_store none reclaimed =
    subst (λ (l : Layout). LeavesPen segment old l) (sym (same_lists old new lists))
    (leaves-left segment count old new.store pen is_store none reclaimed)
