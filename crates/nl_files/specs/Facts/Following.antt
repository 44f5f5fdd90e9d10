-- From one checkpoint to the next.
use Rattle.std.proofs.Common.{◌≡◌, ◌⊎◌, ℕ, ◌+◌, ◌<◌, ◌≤◌, Bool, true, false, List, [], ◌∷◌, ◌++◌, Option, Some, None, refl, ap, sym, subst, ◌∙◌, arith, inl, inr, is_none}
use Rattle.std.specs.List.{AllPairs}
use Rattle.std.specs.Prelude.{◌&&◌, nat_le, nat_lt}
use Rattle.std.proofs.lemmas.Bool.{cases_eq, ltb-true}
use Rattle.nl_types.specs.Blocks.Entries.{Entry, Place, covers, is_before_end}
use Rattle.nl_types.specs.Blocks.Lifetimes.{Allowed, IsLedger, Ledger, Numbers, Makes, numbers_at}
use Rattle.nl_types.specs.Blocks.Roots.{Pages, Root, Empty, pages_of, place_at}
use Rattle.nl_types.specs.Facts.Births.{pages-written}
use Rattle.nl_vstore.specs.Batches.{Changes, CanBeTaken, TakeLowestFree, is_live}
use Rattle.nl_layout.specs.declared.inode.Inode.{Inode}
use Rattle.nl_layout.specs.declared.inode.InodeKind.{InodeKind}
use Rattle.nl_layout.specs.declared.inode.InodeKind.TheVariants.{File, Directory, InodeFile}
use Rattle.nl_blocktree.specs.Checkpoints.{AreRenewed, ComesBefore, FileChange, WritesWhatDiffers, batch_of, inodes_of, no_changes, numbers_of, ledger_pages, roots_after}
use Rattle.nl_blocktree.specs.Numbering.{IsLive}
use Rattle.nl_blocktree.specs.Putting.{pages_after}
use Rattle.nl_blocktree.specs.Facts.Numbers.{numbers-lowest}
use Rattle.nl_blocktree.specs.Facts.RootByRoot.{checkpoints-follow, writes-what-differs}
use Rattle.nl_ifile.specs.Inodes.{inode_at}
use Rattle.nl_tree.specs.Became.{Became}
use Rattle.nl_tree.specs.Held.{Held, Holding, IsHolding}
use Rattle.nl_files.specs.CheckpointRoots.{IsCheckpointRoot, IsTreeSound, StandsAs, StandsFor, Stores, inode_root, roots_at}
use Rattle.nl_files.specs.Laws.{HoldsSettled, IsLatest, SettledNumbersAreLowest, ledger_with}
use Rattle.nl_files.specs.Settles.{Settles}
use Rattle.nl_files.specs.Facts.Ones.{empty-none}
use Rattle.nl_files.specs.Facts.Slots.{not_six, root-there}
use Rattle.nl_files.specs.Facts.Steps.{batch_after-push}

module _ (room : ℕ) (ledger : Ledger) (root new : Root) (base held : Holding) (became : List (ℕ × Became))
    (batch : Changes)
    (is : IsLedger ledger) (latest : IsLatest ledger root base)
    (s : Settles ledger.content root new became held batch)
    (fits : CanBeTaken room ledger.content batch) where
  files : List FileChange
  files = s.files ++ s.inode_file ∷ []

  old : ℕ → Root
  old = roots_at (pages_of ledger.content) root

  batch_is : batch_of files ≡ batch
  unfolding files
  batch_is = batch_after-push s.files s.inode_file no_changes ∙ sym s.batch_is

  renewed : AreRenewed room ledger old files
  unfolding files old
  renewed = record {
    latest = latest.numbers;
    each_once = s.once;
    put = s.put;
    fits = subst (λ (b : Changes). CanBeTaken room ledger.content b) (sym batch_is) fits;
  }

  -- what the law of roots says, of the batch
  next : Allowed (Makes batch.births batch.ends) ledger × IsLedger (ledger_with batch ledger)
      × (numbers_at (ledger_with batch ledger) (ledger.latest + 1)
      ≡ numbers_of (ledger_pages (ledger_with batch ledger)) (roots_after files old))
  next = subst (λ (b : Changes). Allowed (Makes b.births b.ends) ledger × IsLedger (ledger_with b ledger)
      × (numbers_at (ledger_with b ledger) (ledger.latest + 1)
      ≡ numbers_of (ledger_pages (ledger_with b ledger)) (roots_after files old)))
      batch_is
      (let follows = checkpoints-follow room ledger old files is renewed in
      (follows.allowed, follows.is_ledger, follows.reaches))

  pub settled-pages : ledger_pages (ledger_with batch ledger) ≡ pages_after ledger.content batch
  settled-pages = pages-written batch.births batch.ends (ledger.latest + 1) ledger.content fits.once

  roots_are : roots_after files old ≡ roots_at (ledger_pages (ledger_with batch ledger)) new
  unfolding files old
  roots_are =
      subst (λ (pages : Pages).
      roots_after (s.files ++ s.inode_file ∷ []) (roots_at (pages_of ledger.content) root)
      ≡ roots_at pages new)
      (sym settled-pages) (λ j. λ i. s.roots i j)

  pub settled-follow : HoldsSettled ledger new held batch
  settled-follow = record {
    allowed = next.0;
    is_ledger = next.1;
    is_latest = record {
      numbers = next.2 ∙ ap (numbers_of (ledger_pages (ledger_with batch ledger))) roots_are;
      sound = subst (λ (pages : Pages). IsTreeSound pages new) (sym settled-pages) s.sound;
      stores = subst (λ (pages : Pages). Stores pages new held) (sym settled-pages) s.stores;
    };
  }

  in_order : AllPairs (ComesBefore 6) (inodes_of files)
  unfolding files
  in_order = s.in_order

  pub settled-differ : WritesWhatDiffers (ledger_pages ledger) (ledger_pages (ledger_with batch ledger))
      (roots_at (ledger_pages ledger) root)
      (roots_at (ledger_pages (ledger_with batch ledger)) new) 6 batch.births batch.ends
  unfolding old
  settled-differ =
      subst (λ (roots : ℕ → Root).
      WritesWhatDiffers (ledger_pages ledger)
      (ledger_pages (ledger_with batch ledger)) old roots 6 batch.births batch.ends)
      roots_are
      (subst (λ (b : Changes).
      WritesWhatDiffers (ledger_pages ledger) (ledger_pages (ledger_with b ledger)) old
      (roots_after files old) 6 b.births b.ends)
      batch_is
      (writes-what-differs room ledger old files is renewed 6 in_order))

-- ---- numbers of the latest checkpoint have not ended

module _ (ledger : Ledger) (is : IsLedger ledger) where
  live-at : (q : Place) (v : ℕ) → numbers_at ledger ledger.latest q ≡ Some v
      → is_live (ledger.content v) ≡ true
  live-at q v h =
      let at = (is.exact ledger.latest (numbers_at ledger ledger.latest) is.latest_kept).reached q v h in
      subst (λ (o : Option Entry). is_live o ≡ true) (sym at.1) (live at.0 at.0.end refl at.1 at.2)
    where
      right : (a b : Bool) → (a && b) ≡ true → b ≡ true
      right true b h = h
      right false b h = cc

      not_before : (n c : ℕ) → c ≤ n → nat_lt n c ≡ true → ⊥
      not_before n c low before = let below : n < c = ltb-true n c before in omega arith

      live : (e : Entry) (o : Option ℕ) → e.end ≡ o → ledger.content v ≡ Some e
          → covers ledger.latest e ≡ true → is_none e.end ≡ true
      live e None is_none_end in_use cover = ap is_none is_none_end
      live e (Some c) is_end in_use cover =
          let past = is.bounded.ends v e c in_use is_end in
          let before : is_before_end ledger.latest (Some c) ≡ true =
          subst (λ (o : Option ℕ). is_before_end ledger.latest o ≡ true) is_end
          (right (nat_le e.start ledger.latest) (is_before_end ledger.latest e.end) cover) in
          absurd (not_before ledger.latest c past before)

pub some-held : (kind : InodeKind) (blocks : ℕ → Option (List ℕ)) (size : ℕ) (held : Option Held)
    → StandsAs blocks kind size held → (h : Held) × (held ≡ Some h)
some-held File blocks size held s = (_, s)
some-held Directory blocks size held s = (_, s.2)
some-held InodeFile blocks size held s = absurd s

-- the file of inodes has no inode of its own
no-inode : (pages : Pages) (o : Option Inode) (v : Holding) → StandsFor pages o (v 6) → IsHolding v
    → inode_root o ≡ Empty
no-inode pages None v s is = refl
no-inode pages (Some n) v s is =
    let h = some-held n.kind _ n.size (v 6) s in absurd (not_six 6 (is.inode_numbers 6 h.0 h.1) refl)

pub latest-hold : (ledger : Ledger) (root : Root) (v : Holding) → IsLedger ledger → IsLatest ledger root v
    → IsHolding v → IsCheckpointRoot ledger.content root
latest-hold ledger root v is latest volume = record {
  inode_file = record { sound = latest.sound.inode_file; live = live_inode_file };
  inodes = latest.sound.inodes;
  each = λ i. record { sound = latest.sound.each i; live = live_each i (cases_eq i 6) };
  holds = (v, latest.stores, volume);
}
  where
    live_root : (i : ℕ) → IsLive ledger.content (roots_at (pages_of ledger.content) root i)
    live_root i level offset n e =
        live-at ledger is (record { inode = i; level = level; offset = offset }) n
        (ap (λ (numbers : Numbers). numbers (record { inode = i; level = level; offset = offset }))
        latest.numbers
        ∙ e)

    live_inode_file : IsLive ledger.content root
    live_inode_file = live_root 6

    live_each : (i : ℕ) → (i ≡ 6) ⊎ (i ≡ 6 → ⊥)
        → IsLive ledger.content (inode_root (inode_at (pages_of ledger.content) root i))
    live_each i (inr n) =
        subst (λ (r : Root). IsLive ledger.content r) (root-there ledger.content root i n) (live_root i)
    live_each i (inl e) = λ level offset n at.
        absurd (let none : inode_root (inode_at (pages_of ledger.content) root i)
        ≡ Empty = ap (λ (k : ℕ). inode_root (inode_at (pages_of ledger.content) root k)) e
        ∙ no-inode (pages_of ledger.content) (inode_at (pages_of ledger.content) root 6) v
        (latest.stores 6) volume in
        let no : None ≡ Some n =
        sym (ap (λ (r : Root). place_at (pages_of ledger.content) r level offset) none
        ∙ empty-none (pages_of ledger.content) level offset)
        ∙ at in
        cc)

pub settled-lowest : SettledNumbersAreLowest
settled-lowest content root new became held batch s =
    subst (λ (b : Changes). TakeLowestFree content [] b.births)
    (batch_after-push s.files s.inode_file no_changes ∙ sym s.batch_is)
    (numbers-lowest content (roots_at (pages_of content) root) (s.files ++ s.inode_file ∷ []) s.put)
