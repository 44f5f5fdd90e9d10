-- A volume before and behind its first checkpoint.
use Rattle.std.proofs.Common.{◌≡◌, ◌⊎◌, ℕ, zero, suc, ◌+◌, ◌≤◌, false, List, [], ◌∷◌, length, get_or, replicate, Option, Some, None, refl, ap, sym, subst, ◌∙◌, inl, inr, arith}
use Rattle.std.specs.Prelude.{map, max, ◌==◌}
use Rattle.std.specs.Option.{option_map}
use Rattle.std.specs.Ordering.{nat_cmp, eq_by_cmp}
use Rattle.std.specs.FinMap.{find}
use Rattle.std.proofs.lemmas.Bool.{cases_eq, cond-true, cond-false, eq-eqb, ne_eqb}
use Rattle.std.proofs.lemmas.List.Elements.{All-cons, All-nil}
use Rattle.nl_types.specs.declared.error.VolError.{VolError}
use Rattle.nl_types.specs.declared.error.VolError.TheVariants as error
use Rattle.nl_types.specs.declared.event.Event.TheVariants.{Checkpoint}
use Rattle.nl_types.specs.declared.event.Mode.TheVariants.{Plain}
use Rattle.nl_types.specs.declared.geometry.Geometry.{Geometry}
use Rattle.nl_types.specs.Blocks.Entries.{Content}
use Rattle.nl_types.specs.Blocks.Lifetimes.{IsLedger, Ledger, Forgets, Makes, blank, ledger_after, ledger_after_all}
use Rattle.nl_types.specs.Blocks.Roots as roots
use Rattle.nl_types.specs.Blocks.Roots.{pages_of}
use Rattle.nl_types.specs.Plain.Trees.{root_alone}
use Rattle.nl_types.specs.Plain.Worlds.{formatted}
use Rattle.nl_types.specs.Facts.ExactLifetimes.{ledger_after-IsLedger}
use Rattle.nl_types.specs.Facts.WorldLaws.{formatted_is_world}
use Rattle.nl_device.specs.Failures.{Failures}
use Rattle.nl_device.specs.Pages.{DevicePages}
use Rattle.nl_layout.specs.Root.{root_of}
use Rattle.nl_layout.specs.declared.root.Root.{Root}
use Rattle.nl_vstore.specs.Batches.{CanBeTaken}
use Rattle.nl_vstore.specs.Stores.{IsStore, IsWritten, Numbered, capacity, content_in, entry_now}
use Rattle.nl_blocktree.specs.Checkpoints.{numbers_of}
use Rattle.nl_tree.specs.Became.{Current, holding_over}
use Rattle.nl_tree.specs.Held.{Holding}
use Rattle.nl_tree.specs.FirstTree.{first_holding, nothing_held, root_directory_alone, first_tree}
use Rattle.nl_files.specs.CheckpointRoots.{IsTreeSound, roots_at}
use Rattle.nl_files.specs.Laws.{ledger_with}
use Rattle.nl_files.specs.Settles.{Settles}
use Rattle.nl_files.specs.TreeLaws.{StandsOverLatest}
use Rattle.nl_files.specs.Facts.Few.{few-births}
use Rattle.nl_files.specs.Facts.First.{latest-first, stores-nothing}
use Rattle.nl_files.specs.Facts.TreeLaws.{first_trees-stand, trees-can_be_settled}
use Rattle.nl_files.specs.Facts.Holdings.{roots-hold_one}
use Rattle.nl_commit.specs.Draft.{CanBeDrafted, HasFewNames, SettlesNow}
use Rattle.nl_commit.specs.Layout.{HasRefused, HasWrittenCheckpoint, IsFormatted, IsPen, IsSoundPen, LacksSpaceToSettle, Layout, MeansWorld, Settled, blank_layout, layout_of, ledger_of, layout_pages, reached_by}
use Rattle.nl_commit.specs.Means.{RootMeans}
use Rattle.nl_commit.specs.Tables.{blank_checkpoint}
use Rattle.nl_cpfile.specs.Tables.{by_number, kept_at, checkpoint_root}
use Rattle.nl_commit.specs.Volume.{Lists, latest_alone, mount_of}
use Rattle.nl_cpfile.specs.declared.checkpoint.Checkpoint.{Checkpoint as Kept}
use Rattle.nl_events.specs.Facts.Checkpoints.{differs-behind, ledger-behind, stands-behind}
use Rattle.nl_events.proofs.FirstLogs.{first_logs}
use Rattle.nl_cpfile.specs.Facts.Found.{eq_by_cmp-nat_cmp}
use Rattle.nl_events.specs.Facts.Published.{current-means, root-means}

-- ---- what is found under a number

-- another number ties with none of these
tied-not : (n m : ℕ) → (m ≡ n → ⊥) → eq_by_cmp nat_cmp n m ≡ false
tied-not n m other = eq_by_cmp-nat_cmp n m ∙ ne_eqb m n other

found-one : (c : Kept) → find nat_cmp c.number (by_number c ∷ []) ≡ Some c
found-one c =
    cond-true (eq_by_cmp nat_cmp c.number c.number) (Some c) None
    (eq_by_cmp-nat_cmp c.number c.number ∙ eq-eqb c.number c.number refl)

found-behind : (n : ℕ) (c : Kept) (rest : List (ℕ × Kept)) → (c.number ≡ n → ⊥)
    → find nat_cmp n (by_number c ∷ rest) ≡ find nat_cmp n rest
found-behind n c rest other =
    cond-false (eq_by_cmp nat_cmp n c.number) (Some c) (find nat_cmp n rest) (tied-not n c.number other)

-- ---- before there is a checkpoint

-- nothing stands in an empty list of places
none-stands : {X : Type 0} (total k : ℕ) → get_or (replicate {A = Option X} total None) k None ≡ None
none-stands zero k = refl
none-stands (suc total) zero = refl
none-stands (suc total) (suc k) = none-stands total k

module _ (geometry : Geometry) (device : DevicePages) (failures : Failures) where
  abbrev before : Layout
  before = blank_layout geometry device failures

  content-blank : content_in before.store ≡ blank.content
  content-blank i v = ap (option_map entry_now) (none-stands {X = Numbered} (capacity before.store + 1) v) i

  reached-blank : reached_by (layout_pages before) blank_checkpoint ≡ (λ _. None)
  reached-blank =
      ap (λ (content : Content). numbers_of (pages_of content) (roots_at (pages_of content) roots.Empty))
      content-blank
      ∙ sym latest-first.numbers

  kept-blank : (c : ℕ)
      → option_map (reached_by (layout_pages before)) (find nat_cmp c (by_number blank_checkpoint ∷ []))
      ≡ blank.kept c
  kept-blank c = elim (cases_eq c 0) [
    | inl is ↦
        subst (λ k.
        option_map (reached_by (layout_pages before)) (find nat_cmp k (by_number blank_checkpoint ∷ []))
        ≡ blank.kept k)
        (sym is) (ap (λ numbers. Some numbers) reached-blank)
    | inr other ↦
        ap (option_map (reached_by (layout_pages before)))
        (found-behind c blank_checkpoint [] (λ is. other (sym is)))
        ∙ sym (cond-false (c == 0) _ _ (ne_eqb c 0 other))
  ]

  -- no number is in use, and the checkpoint without files is kept
  ledger-before : ledger_of before ≡ blank
  ledger-before i = record { content = content-blank i; latest = 0; kept = λ c. kept-blank c i }

  -- the tree of a new volume stands over it
  pub stands-before : StandsOverLatest (ledger_of before) roots.Empty first_tree nothing_held root_alone
  stands-before =
      subst (λ (ledger : Ledger). StandsOverLatest ledger roots.Empty first_tree nothing_held root_alone)
      (sym ledger-before) first_trees-stand

  pub sound-before : IsStore before.store → IsSoundPen before
  sound-before is_store = record {
    ledger = stands-before.is_ledger;
    trees_sound =
        All-cons
        (λ (c : Kept). IsTreeSound (layout_pages before) (root_of (checkpoint_root c))) blank_checkpoint []
        stands-before.latest.sound
        (All-nil (λ (c : Kept). IsTreeSound (layout_pages before) (root_of (checkpoint_root c))));
    latest = found-one blank_checkpoint;
    last = omega arith;
    store = is_store;
  }

  -- so a first checkpoint can be drafted
  drafted-before : CanBeDrafted (content_in before.store) before.lists
  drafted-before =
      let can =
      trees-can_be_settled
      (ledger_of before) roots.Empty first_tree nothing_held root_alone stands-before in
      (can.checkpoint, nothing_held, holding_over first_tree.became nothing_held, can.current)

  -- ---- why it is refused

  -- it writes two blocks at most
  few-written : (root : Root) (settled : Settled before root) → length settled.changes.births ≤ 2
  few-written root settled = few-births (capacity before.store) root settled.changes settles fits
    where
      held : settled.held ≡ first_holding
      held = settled.current.holds ∙ ap (holding_over root_directory_alone)
          (roots-hold_one (layout_pages before) roots.Empty settled.base nothing_held settled.current.base_is
          (stores-nothing (layout_pages before)))

      settles : Settles blank.content roots.Empty
          (root_of root) root_directory_alone first_holding settled.changes
      settles = subst
          (λ (content : Content).
          Settles content roots.Empty (root_of root) root_directory_alone first_holding settled.changes)
          content-blank
          (subst (λ (h : Holding). SettlesNow (content_in before.store) before.lists root h settled.changes)
          held settled.settles)

      fits : CanBeTaken (capacity before.store) blank.content settled.changes
      fits =
          subst (λ (content : Content). CanBeTaken (capacity before.store) content settled.changes)
          content-blank settled.fits

  -- and there is space for them
  has-space : LacksSpaceToSettle before → ⊥
  has-space lacks =
      let fits =
      first_logs geometry (length lacks.settled.changes.births) (few-written lacks.root lacks.settled) in
      lacks.lacks fits.0 fits.1

  refused-before : (new : Layout) (now : ℕ) (e : VolError) → HasRefused (Checkpoint Plain now) e before new
      → (e ≡ error.Memory) ⊎ (e ≡ error.Fault)
  refused-before new now error.Memory refused = inl refl
  refused-before new now error.Fault refused = inr refl
  refused-before new now error.NoSpace refused = absurd (has-space refused.1.1)
  refused-before new now error.NumbersSpent refused = let spent = refused.1 in absurd (omega (arith, spent))
  refused-before new now _ refused = absurd refused.1

  -- ---- behind the first checkpoint, once the one without files is gone

  module _ (new : Layout) (now : ℕ) (writes : HasWrittenCheckpoint Plain now before new)
      (old_store : IsStore before.store) where
    abbrev after : Layout
    after = layout_of (latest_alone new.lists) new.store

    abbrev latest : Kept
    latest = new.lists.table.latest

    number : latest.number ≡ 1
    number = ap (λ (l : Lists). l.table.latest.number) writes.lists

    mode : latest.mode ≡ Plain
    mode = ap (λ (l : Lists). l.table.latest.mode) writes.lists

    minor : latest.minor ≡ false
    minor = ap (λ (l : Lists). l.table.latest.minor) writes.lists

    stamp : latest.stamp ≡ now
    stamp =
        ap (λ (l : Lists). l.table.latest.stamp) writes.lists
        ∙ (let most : max now 0 ≡ now = omega arith in most)

    inodes : latest.inodes ≡ 1
    inodes = ap (λ (l : Lists). l.table.latest.inodes) writes.lists

    -- the tree stands over it
    stands : StandsOverLatest (ledger_of new)
        (root_of (checkpoint_root latest)) new.lists.current first_holding root_alone
    stands =
        stands-behind before new Plain now
        (sound-before old_store) nothing_held root_alone stands-before writes

    -- ---- its ledger

    kept-after : (c : ℕ)
        → option_map (reached_by (layout_pages new)) (find nat_cmp c (by_number latest ∷ []))
        ≡ (ledger_after (Forgets 0) (ledger_of new)).kept c
    kept-after c = elim (cases_eq c 0) [
      | inl is ↦
          ap (option_map (reached_by (layout_pages new)))
          (found-behind c latest [] (λ same. omega (arith, same, is, number)))
          ∙ sym (cond-true (c == 0) _ _ (eq-eqb c 0 is))
      | inr other ↦
          ap (option_map (reached_by (layout_pages new)))
          (sym (found-behind c blank_checkpoint (by_number latest ∷ []) (λ same. other (sym same)))
          ∙ ap (λ (earlier : List Kept). kept_at c (record new.lists.table { earlier = earlier }))
          (sym (ap (λ (l : Lists). l.table.earlier) writes.lists)))
          ∙ sym (cond-false (c == 0) _ _ (ne_eqb c 0 other))
    ]

    ledger-after : ledger_of after ≡ ledger_after (Forgets 0) (ledger_of new)
    ledger-after i =
        record { content = content_in new.store; latest = latest.number; kept = λ c. kept-after c i }

    is_ledger : IsLedger (ledger_of after)
    is_ledger = subst IsLedger (sym ledger-after)
        (ledger_after-IsLedger (Forgets 0) (ledger_of new) stands.is_ledger
        (λ same. omega (arith, same, number)))

    -- what was written and removed since the blank one
    ledger-formatted : ledger_of after
        ≡ ledger_after_all
        (Makes writes.settled.changes.births writes.settled.changes.ends ∷ Forgets 0 ∷ []) blank
    ledger-formatted =
        ledger-after ∙ ap (ledger_after (Forgets 0))
        (ledger-behind before new Plain now
        (sound-before old_store) nothing_held root_alone stands-before writes
        ∙ ap (ledger_with writes.settled.changes) ledger-before)

    -- ---- what it is

    is-formatted : IsFormatted geometry device failures now after
    is-formatted = record {
      settled = writes.settled;
      differs =
          differs-behind before new Plain now
          (sound-before old_store) nothing_held root_alone stands-before writes;
      lowest_free = writes.lowest_free;
      written = subst (λ n. IsWritten n now writes.settled.changes before.store new.store) number
          (subst (λ n. IsWritten latest.number n writes.settled.changes before.store new.store) stamp
          writes.written);
      ledger = ledger-formatted;
    }

    sound-after : IsStore new.store → IsSoundPen after
    sound-after is_store = record {
      ledger = is_ledger;
      trees_sound =
          All-cons (λ (c : Kept). IsTreeSound (layout_pages new) (root_of (checkpoint_root c))) latest
          [] stands.latest.sound
          (All-nil (λ (c : Kept). IsTreeSound (layout_pages new) (root_of (checkpoint_root c))));
      latest = found-one latest;
      last = omega (arith, number);
      store = is_store;
    }

    -- nothing differs from the checkpoint, so it stands for the tree too
    copy-after : RootMeans (layout_pages new) (checkpoint_root latest) root_alone
    copy-after = root-means new before.lists.current first_holding root_alone
        (subst (λ (now : Current).
        StandsOverLatest (ledger_of new) (root_of (checkpoint_root latest)) now first_holding root_alone)
        (ap (λ (l : Lists). l.current) writes.lists) stands)

    means-after : MeansWorld after (formatted now)
    means-after = record {
      world = formatted_is_world now;
      tree = current-means new first_holding root_alone stands;
      dirty = sym (ap (λ (l : Lists). l.dirty) writes.lists);
      copies = (
        record {
          number = sym number;
          mode = sym mode;
          minor = sym minor;
          stamp = sym stamp;
          inodes = inodes;
          tree = copy-after;
        },
        tt,
      );
      mounts = sym (ap (λ (l : Lists). map mount_of l.mounts) writes.lists);
      given = sym (ap (λ (l : Lists). l.given) writes.lists);
    }

    is-pen : IsStore new.store → IsPen after
    is-pen is_store = record { world = (formatted now, means-after); sound = sound-after is_store }

-- ---- the whole

-- the first checkpoint of a blank volume was written, and the one without files is gone
pub record IsNew (geometry : Geometry) (device : DevicePages) (failures : Failures) (now : ℕ)
    (l : Layout) : Type 0 where
  pub means : MeansWorld l (formatted now)
  pub is_formatted : IsFormatted geometry device failures now l
  pub is_pen : IsPen l

module _ (geometry : Geometry) (device : DevicePages) (failures : Failures) (old : Layout)
    (is-blank : old ≡ blank_layout geometry device failures) where
  pub has_few-names : HasFewNames old.lists
  has_few-names = subst (λ (l : Layout). HasFewNames l.lists) (sym is-blank) (omega arith)

  pub can_be-drafted : CanBeDrafted (content_in old.store) old.lists
  can_be-drafted = subst (λ (l : Layout). CanBeDrafted (content_in l.store) l.lists) (sym is-blank)
      (drafted-before geometry device failures)

  -- no number is in use
  pub none-in-use : (v : ℕ) → content_in old.store v ≡ None
  none-in-use v =
      ap (λ (l : Layout). content_in l.store v) is-blank
      ∙ ap (λ (content : Content). content v) (content-blank geometry device failures)

  module _ (new : Layout) (now : ℕ) where
    pub refused-first : (e : VolError) → HasRefused (Checkpoint Plain now) e old new
        → (e ≡ error.Memory) ⊎ (e ≡ error.Fault)
    refused-first e refused = refused-before geometry device failures new now e
        (subst (λ (l : Layout). HasRefused (Checkpoint Plain now) e l new) is-blank refused)

    pub new-volume : (left : Lists) → HasWrittenCheckpoint Plain now old new → IsStore old.store
        → IsStore new.store
        → left ≡ latest_alone new.lists
        → IsNew geometry device failures now (layout_of left new.store)
    new-volume left writes old_store is_store is =
        subst (λ (ls : Lists). IsNew geometry device failures now (layout_of ls new.store)) (sym is) (record {
          means = means-after geometry device failures new now first first_store;
          is_formatted = is-formatted geometry device failures new now first first_store;
          is_pen = is-pen geometry device failures new now first first_store is_store;
        })
      where
        first : HasWrittenCheckpoint Plain now (blank_layout geometry device failures) new
        first = subst (λ (l : Layout). HasWrittenCheckpoint Plain now l new) is-blank writes

        first_store : IsStore (blank_layout geometry device failures).store
        first_store = subst (λ (l : Layout). IsStore l.store) is-blank old_store
