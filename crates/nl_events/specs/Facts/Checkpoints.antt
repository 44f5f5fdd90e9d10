-- What a written checkpoint leaves: its ledger, the kept checkpoints, and the current tree over it.
use Rattle.std.proofs.Common.{◌≡◌, ℕ, ◌+◌, ◌<◌, true, false, cond, eqb, List, [], ◌∷◌, ◌++◌, Option, Some, None, refl, ap, sym, subst, ◌∙◌, inl, inr}
use Rattle.std.specs.Prelude.{All, map}
use Rattle.std.specs.Option.{option_map, option_or}
use Rattle.std.specs.Ordering.{nat_cmp}
use Rattle.std.specs.FinMap.{find}
use Rattle.std.proofs.lemmas.Bool.{cases_Bool, cond-false, cond-true, eq-eqb, eqb-true, ne_eqb}
use Rattle.std.proofs.lemmas.List.Elements.{All-push, All-weaker}
use Rattle.nl_types.specs.declared.event.Mode.{Mode}
use Rattle.nl_types.specs.Blocks.Entries.{written}
use Rattle.nl_types.specs.Blocks.Lifetimes.{Allowed, EndsOnce, IsLedger, KeepsCovered, Ledger, Makes, numbers_at}
use Rattle.nl_types.specs.Plain.Limits.{checkpoint_number_limit}
use Rattle.nl_types.specs.Blocks.PartialMaps.{Keeps}
use Rattle.nl_types.specs.Blocks.RootChanges.{with_births}
use Rattle.nl_types.specs.Blocks.Roots.{Pages, Root, pages_of}
use Rattle.nl_types.specs.Plain.Trees.{Tree}
use Rattle.nl_types.specs.Facts.Births.{pages-written}
use Rattle.nl_types.specs.Facts.ExactLifetimes.{covered_kept_all, ends_once}
use Rattle.nl_layout.specs.Root.{root_of}
use Rattle.nl_vstore.specs.Batches.{Changes}
use Rattle.nl_vstore.specs.Stores.{IsStore, capacity, content_in}
use Rattle.nl_blocktree.specs.Checkpoints.{WritesWhatDiffers, numbers_of}
use Rattle.nl_blocktree.specs.Facts.Frames.{births-keep}
use Rattle.nl_blocktree.specs.Facts.Numbers.{unused_of_fits}
use Rattle.nl_tree.specs.Became.{Current, holding_over}
use Rattle.nl_tree.specs.Held.{Holding}
use Rattle.nl_files.specs.CheckpointRoots.{IsTreeSound, roots_at}
use Rattle.nl_files.specs.Laws.{HoldsSettled, ledger_with}
use Rattle.nl_files.specs.Settles.{Settles}
use Rattle.nl_files.specs.Staying.{CheckpointStays}
use Rattle.nl_files.specs.TreeLaws.{StandsOverLatest}
use Rattle.nl_files.specs.Facts.Following.{settled-differ, settled-follow}
use Rattle.nl_files.specs.Facts.TreeLaws.{settled_trees-go_on}
use Rattle.nl_files.specs.Facts.Holdings.{roots-hold_one}
use Rattle.nl_commit.specs.Layout.{HasWrittenCheckpoint, IsSoundPen, KeepsNumbers, Layout, WritesBetween, ledger_of, layout_pages, reached_by}
use Rattle.nl_cpfile.specs.Tables.{by_number, checkpoint_root}
use Rattle.nl_commit.specs.Volume.{Lists, kept_by, latest_root, next_checkpoint}
use Rattle.nl_cpfile.specs.declared.checkpoint.Checkpoint.{Checkpoint}
use Rattle.nl_cpfile.specs.Facts.Found.{found-push}
use Rattle.nl_events.specs.Facts.Ledgers.{found-all, none-next}
use Rattle.nl_events.specs.Facts.MorePages.{sound-stays}

-- ---- what is written

module _ (old new : Layout) (mode : Mode) (moment : ℕ)
    (writes : HasWrittenCheckpoint mode moment old new) where
  abbrev changes : Changes
  changes = writes.settled.changes

  -- the new latest checkpoint is the next one
  pub latest-next : new.lists.table.latest ≡ next_checkpoint mode moment (latest_root new.lists) old.lists
  latest-next = ap (λ (l : Lists). l.table.latest) writes.lists

  pub number-next : new.lists.table.latest.number ≡ old.lists.table.latest.number + 1
  number-next = ap (λ (c : Checkpoint). c.number) latest-next

  -- it is kept behind the others
  pub kept-next : kept_by new.lists ≡ kept_by old.lists ++ new.lists.table.latest ∷ []
  kept-next = ap kept_by writes.lists ∙ ap (λ (c : Checkpoint). kept_by old.lists ++ c ∷ []) (sym latest-next)

  content-next : content_in new.store
      ≡ written writes.settled.changes.births writes.settled.changes.ends (old.lists.table.latest.number + 1)
      (content_in old.store)
  content-next =
      writes.written.content
      ∙ ap (λ (n : ℕ). written changes.births changes.ends n (content_in old.store)) number-next

  births-next : layout_pages new ≡ with_births writes.settled.changes.births (layout_pages old)
  births-next =
      ap pages_of content-next
      ∙ pages-written changes.births changes.ends (old.lists.table.latest.number + 1)
      (content_in old.store) writes.settled.fits.once

  -- the pages that there were stay
  pub pages-stay : Keeps (layout_pages old) (layout_pages new)
  pages-stay = subst (Keeps (layout_pages old)) (sym births-next)
      (births-keep (content_in old.store) changes.births
      (unused_of_fits (capacity old.store) (content_in old.store) changes writes.settled.fits))

  -- and so do the kept checkpoints
  pub kept-stay : IsSoundPen old
      → All (λ (c : Checkpoint).
      CheckpointStays (layout_pages old) (layout_pages new) (root_of (checkpoint_root c)))
      (kept_by old.lists)
  kept-stay sound =
      All-weaker (λ (c : Checkpoint). IsTreeSound (layout_pages old) (root_of (checkpoint_root c)))
      (λ (c : Checkpoint).
      CheckpointStays (layout_pages old) (layout_pages new) (root_of (checkpoint_root c)))
      (λ c is. sound-stays (layout_pages old) (layout_pages new) (root_of (checkpoint_root c)) is pages-stay)
      (kept_by old.lists) sound.trees_sound

-- ---- behind it

module _ (old new : Layout) (mode : Mode) (moment : ℕ) (sound : IsSoundPen old) (base : Holding) (tree : Tree)
    (stands : StandsOverLatest (ledger_of old) (root_of (latest_root old.lists)) old.lists.current base tree)
    (writes : HasWrittenCheckpoint mode moment old new) where
  abbrev batch : Changes
  batch = writes.settled.changes

  abbrev old_root : Root
  old_root = root_of (latest_root old.lists)

  abbrev new_root : Root
  new_root = root_of (latest_root new.lists)

  abbrev held : Holding
  held = holding_over old.lists.current.became base

  abbrev behind : Ledger
  behind = ledger_with writes.settled.changes (ledger_of old)

  -- the tree that is settled is the one that stands
  settles : Settles (content_in old.store) old_root new_root old.lists.current.became held batch
  settles =
      subst
      (λ (h : Holding). Settles (content_in old.store) old_root new_root old.lists.current.became h batch)
      (writes.settled.current.holds ∙ ap (holding_over old.lists.current.became)
      (roots-hold_one
      (layout_pages old) old_root writes.settled.base base writes.settled.current.base_is
      stands.latest.stores))
      writes.settled.settles

  follows : HoldsSettled (ledger_of old) new_root held batch
  follows =
      settled-follow (capacity old.store)
      (ledger_of old) old_root new_root base held old.lists.current.became batch
      sound.ledger stands.latest settles writes.settled.fits

  content-behind : content_in new.store ≡ behind.content
  content-behind = content-next old new mode moment writes

  pages-behind : layout_pages new ≡ pages_of behind.content
  pages-behind = ap pages_of content-behind

  number-behind : new.lists.table.latest.number ≡ behind.latest
  number-behind = number-next old new mode moment writes

  -- ---- what is found under a number

  abbrev found : Layout → ℕ → Option Checkpoint
  found l n = find nat_cmp n (map by_number (kept_by l.lists))

  -- the checkpoint behind those that were kept, where none of them has the number
  abbrev or_latest : ℕ → Option Checkpoint → Option Checkpoint
  or_latest n o = option_or o (cond (eqb new.lists.table.latest.number n) (Some new.lists.table.latest) None)

  found-next : (n : ℕ) → found new n ≡ or_latest n (found old n)
  found-next n =
      ap (λ (kept : List Checkpoint). find nat_cmp n (map by_number kept))
      (kept-next old new mode moment writes)
      ∙ sym (found-push n (kept_by old.lists) new.lists.table.latest (found old n) refl)

  found-latest : found new new.lists.table.latest.number ≡ Some new.lists.table.latest
  found-latest =
      found-next new.lists.table.latest.number
      ∙ (ap (or_latest new.lists.table.latest.number) (ap (found old) number-behind ∙ none-next old sound)
      ∙ cond-true (eqb new.lists.table.latest.number new.lists.table.latest.number)
      (Some new.lists.table.latest) None
      (eq-eqb new.lists.table.latest.number new.lists.table.latest.number refl))

  found-others : (n : ℕ) → (new.lists.table.latest.number ≡ n → ⊥) → found new n ≡ found old n
  found-others n other =
      found-next n
      ∙ (ap (option_or (found old n))
      (cond-false (eqb new.lists.table.latest.number n) (Some new.lists.table.latest) None
      (ne_eqb new.lists.table.latest.number n other))
      ∙ or_none (found old n))
    where
      or_none : (o : Option Checkpoint) → option_or o None ≡ o
      or_none None = refl
      or_none (Some x) = refl

  -- ---- what kept checkpoints reach

  reached-latest : reached_by (layout_pages new) new.lists.table.latest ≡ numbers_at behind behind.latest
  reached-latest =
      ap (λ (pages : Pages). numbers_of pages (roots_at pages new_root)) pages-behind
      ∙ sym follows.is_latest.numbers

  reached-others : (n : ℕ) (o : Option Checkpoint) → found old n ≡ o
      → option_map (reached_by (layout_pages new)) o ≡ option_map (reached_by (layout_pages old)) o
  reached-others n None is = refl
  reached-others n (Some c) is =
      ap Some (found-all
      (λ (k : Checkpoint).
      CheckpointStays (layout_pages old) (layout_pages new) (root_of (checkpoint_root k)))
      n
      (kept_by old.lists) c
      (kept-stay old new mode moment writes sound) is).numbers

  reached-behind : (n : ℕ) → option_map (reached_by (layout_pages new)) (found new n) ≡ behind.kept n
  reached-behind n = elim (cases_Bool (eqb n behind.latest)) [
    | inl t ↦
        let is : n ≡ behind.latest = eqb-true n behind.latest t in
        ap (λ (m : ℕ). option_map (reached_by (layout_pages new)) (found new m)) (is ∙ sym number-behind)
        ∙ (ap (option_map (reached_by (layout_pages new))) found-latest
        ∙ (ap Some reached-latest ∙ (sym follows.is_ledger.latest_kept ∙ ap behind.kept (sym is))))
    | inr t ↦
        let other : new.lists.table.latest.number ≡ n → ⊥ = λ same.
        let no : true ≡ false = sym (eq-eqb n behind.latest (sym same ∙ number-behind)) ∙ t in cc in
        ap (option_map (reached_by (layout_pages new))) (found-others n other)
        ∙ (reached-others n (found old n) refl ∙ sym (cond-false (eqb n behind.latest) _ _ t))
  ]

  -- ---- what is left

  -- the write is one that there may be
  pub allowed-behind : Allowed (Makes writes.settled.changes.births writes.settled.changes.ends)
      (ledger_of old)
  allowed-behind = follows.allowed

  -- the ledger goes on by the births and the ends
  pub ledger-behind : ledger_of new ≡ ledger_with writes.settled.changes (ledger_of old)
  ledger-behind i = record {
    content = content-behind i;
    latest = number-behind i;
    kept = λ n. reached-behind n i;
  }

  kept-behind : All (λ (c : Checkpoint). IsTreeSound (layout_pages new) (root_of (checkpoint_root c)))
      (kept_by old.lists)
  kept-behind =
      All-weaker (λ (c : Checkpoint).
      CheckpointStays (layout_pages old) (layout_pages new) (root_of (checkpoint_root c)))
      (λ (c : Checkpoint). IsTreeSound (layout_pages new) (root_of (checkpoint_root c)))
      (λ c stays. stays.sound) (kept_by old.lists)
      (kept-stay old new mode moment writes sound)

  -- what is true of every pen, but that it means a world
  pub sound-behind : IsStore new.store → IsSoundPen new
  sound-behind is_store = record {
    ledger = subst IsLedger (sym ledger-behind) follows.is_ledger;
    trees_sound =
        subst (All (λ (c : Checkpoint). IsTreeSound (layout_pages new) (root_of (checkpoint_root c))))
        (sym (kept-next old new mode moment writes))
        (All-push (λ (c : Checkpoint). IsTreeSound (layout_pages new) (root_of (checkpoint_root c)))
        (kept_by old.lists) new.lists.table.latest kept-behind
        (subst (λ (pages : Pages). IsTreeSound pages new_root) (sym pages-behind) follows.is_latest.sound));
    latest = found-latest;
    last = subst (λ (n : ℕ). n < checkpoint_number_limit) (sym number-behind) writes.left;
    store = is_store;
  }

  -- the current tree stands for the same over the new checkpoint
  pub stands-behind : StandsOverLatest (ledger_of new) (root_of (latest_root new.lists)) new.lists.current
      (holding_over old.lists.current.became base) tree
  stands-behind =
      subst (λ (now : Current). StandsOverLatest (ledger_of new) new_root now held tree)
      (sym (ap (λ (l : Lists). l.current) writes.lists))
      (subst (λ (ledger : Ledger).
      StandsOverLatest ledger new_root (record old.lists.current { became = [] }) held tree)
      (sym ledger-behind)
      (settled_trees-go_on (capacity old.store)
      (ledger_of old) old_root new_root old.lists.current base tree batch stands settles
      writes.settled.fits))

  -- numbers keep what they stand for
  pub numbers-behind : KeepsNumbers old new
  numbers-behind = record {
    covered = subst (KeepsCovered (ledger_of old)) (sym ledger-behind)
        (covered_kept_all (Makes batch.births batch.ends ∷ []) (ledger_of old) sound.ledger
        (follows.allowed, tt));
    ends = subst (EndsOnce (ledger_of old)) (sym ledger-behind)
        (ends_once (Makes batch.births batch.ends) (ledger_of old) follows.allowed);
  }

  -- exactly what differs is written
  pub differs-behind : WritesBetween old new writes.settled.changes
  differs-behind =
      subst (λ (pages : Pages).
      WritesWhatDiffers (layout_pages old) pages (roots_at (layout_pages old) old_root)
      (roots_at pages new_root) 6
      batch.births batch.ends) (sym pages-behind)
      (settled-differ (capacity old.store)
      (ledger_of old) old_root new_root base held old.lists.current.became batch
      sound.ledger stands.latest settles writes.settled.fits)
