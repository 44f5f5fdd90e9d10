-- What is opened of an image that meets all conditions is a pen.
use Rattle.std.proofs.Common.{◌≡◌, ℕ, ◌<◌, ◌≤◌, Bool, true, false, cond, List, [], ◌∷◌, map, Option, Some, None, refl, ap, sym, subst, ◌∙◌, inr, arith, is_some, unwrap_or}
use Rattle.std.specs.Prelude.{All}
use Rattle.std.specs.List.{AllByRecursion}
use Rattle.std.specs.Option.{option_map}
use Rattle.std.specs.Ordering.{nat_cmp, eq_by_cmp}
use Rattle.std.specs.FinMap.{find}
use Rattle.std.proofs.lemmas.Bool.{eq-eqb, eqb-true}
use Rattle.std.proofs.lemmas.List.Elements.{All-from_recursion, All-push, All-weaker, recursion_from_All}
use Rattle.nl_types.specs.Blocks.Entries.{Content}
use Rattle.nl_types.specs.InodeLaws.{LimitedInodesMeanTrees}
use Rattle.nl_types.specs.Inodes.{MeansTree}
use Rattle.nl_types.specs.Blocks.Lifetimes.{IsExact, IsLedger, Numbers}
use Rattle.nl_types.specs.Plain.NumberLists.{is_one_of}
use Rattle.nl_types.specs.Blocks.Roots.{pages_of}
use Rattle.nl_types.specs.Plain.Worlds.{Copy, IsWorld, World, copy_at, latest}
use Rattle.nl_layout.specs.Root.{root_of}
use Rattle.nl_vstore.specs.Stores.{content_in}
use Rattle.nl_tree.specs.Became.{Became, holding_over}
use Rattle.nl_tree.specs.CurrentTrees.{StandsOver}
use Rattle.nl_tree.specs.Held.{Holding, IsHolding, inodes_of_holding}
use Rattle.nl_files.specs.CheckpointRoots.{IsTreeSound}
use Rattle.nl_check.specs.Laws.{ExactPeriodsAreExact, SoundTreesAreMeant}
use Rattle.nl_cpfile.specs.Tables.{Precedes, Table, by_number, kept_at, checkpoint_root}
use Rattle.nl_cpfile.specs.declared.checkpoint.Checkpoint.{Checkpoint}
use Rattle.nl_cpfile.specs.Facts.Found.{eq_by_cmp-nat_cmp, kept-last}
use Rattle.nl_cpfile.specs.Facts.Rising.{IsRising-last}
use Rattle.nl_commit.specs.Layout.{IsPen, IsSoundPen, Layout, MeansWorld, ledger_of, layout_pages, reached_by}
use Rattle.nl_core.specs.Opened.{CheckedCheckpointsHaveInodes, IsChecked, IsOpened, OpenedImagesArePens}
use Rattle.nl_commit.specs.Volume.{kept_by, mount_of}
use Rattle.nl_core.proofs.CheckedCopies.{HasTree, InLimits, copies-fit, copies-last, copies-mean, copies-sorted, copies-stamped, copies_of, copy_of, copy_of-tree, found-tree, is-tree, last_tree, some-inode}
use Rattle.nl_events.specs.Facts.Ledgers.{found-all}

-- what is found under a number has it
numbered-found : (n : ℕ) (kept : List Checkpoint) (c : Checkpoint)
    → find nat_cmp n (map by_number kept) ≡ Some c → c.number ≡ n
numbered-found n [] c e = cc
numbered-found n (k ∷ kept) c e = by (eq_by_cmp nat_cmp n k.number) refl e (λ h. numbered-found n kept c h)
  where
    by : (b : Bool) → eq_by_cmp nat_cmp n k.number ≡ b
        → cond b (Some k) (find nat_cmp n (map by_number kept)) ≡ Some c
        → (find nat_cmp n (map by_number kept) ≡ Some c → c.number ≡ n) → c.number ≡ n
    by true t h more =
        let it : k ≡ c = cc in
        ap (λ (x : Checkpoint). x.number) (sym it)
        ∙ eqb-true k.number n (sym (eq_by_cmp-nat_cmp n k.number) ∙ t)
    by false t h more = more h

module _ (limited : LimitedInodesMeanTrees) (sound_trees : SoundTreesAreMeant) where
  -- a checkpoint that was checked stands for a tree
  tree-of : (content : Content) (c : Checkpoint) → IsChecked content c → HasTree (pages_of content) c
  tree-of content c checked =
      (sound_trees (pages_of content)
      (root_of (checkpoint_root c)) checked.size c.inodes checked.meets.shaped checked.meets.tree).1

  pub checked_have-inodes : CheckedCheckpointsHaveInodes
  checked_have-inodes content c checked = some-inode (pages_of content) limited c (tree-of content c checked)

  module _ (exact_periods : ExactPeriodsAreExact) (l : Layout) (opened : IsOpened l) where
    abbrev content : Content
    content = content_in l.store

    abbrev table : Table
    table = l.lists.table

    sound-of : (c : Checkpoint) → IsChecked content c
        → IsTreeSound (layout_pages l) (root_of (checkpoint_root c))
    sound-of c checked =
        (sound_trees (pages_of content)
        (root_of (checkpoint_root c)) checked.size c.inodes checked.meets.shaped checked.meets.tree).0

    exact-of : (c : Checkpoint) → IsChecked content c
        → IsExact content c.number (reached_by (layout_pages l) c)
    exact-of c checked =
        exact_periods content c.number
        (root_of (checkpoint_root c)) checked.size c.inodes checked.meets.shaped
        checked.meets.tree checked.meets.exact

    trees : AllByRecursion (HasTree (layout_pages l)) (kept_by l.lists)
    trees = recursion_from_All (HasTree (layout_pages l)) (kept_by l.lists)
        (All-weaker (IsChecked content) (HasTree (layout_pages l)) (tree-of content)
        (kept_by l.lists) opened.checked)

    -- ---- the numbers of checkpoints

    abbrev IsBelow : Checkpoint → Type 0
    IsBelow c = c.number < table.latest.number

    abbrev IsNotAbove : Checkpoint → Type 0
    IsNotAbove c = c.number ≤ table.latest.number

    earlier-below : All IsBelow table.earlier
    earlier-below =
        All-weaker (λ (c : Checkpoint). Precedes c table.latest) IsBelow (λ c p. p.number) table.earlier
        (All-from_recursion (λ (c : Checkpoint). Precedes c table.latest) table.earlier
        (IsRising-last table.earlier table.latest opened.table.rising))

    none-above : All IsNotAbove (kept_by l.lists)
    none-above = All-push IsNotAbove table.earlier table.latest
        (All-weaker IsBelow IsNotAbove (λ c low. omega (arith, low)) table.earlier earlier-below)
        (omega arith)

    in-limits : AllByRecursion (InLimits (layout_pages l)) (kept_by l.lists)
    in-limits =
        recursion_from_All (InLimits (layout_pages l)) (kept_by l.lists) (λ i d inside. fits i d inside)
      where
        fits : All (InLimits (layout_pages l)) (kept_by l.lists)
        fits i d inside =
            let low = (opened.checked i d inside).positive in
            let high = none-above i d inside in
            let limit = opened.table.limit in
            (omega (arith, low), omega (arith, high, limit))

    latest-found : kept_at table.latest.number table ≡ Some table.latest
    latest-found =
        kept-last table opened.table table.latest.number (eq-eqb table.latest.number table.latest.number refl)

    -- ---- the ledger

    record IsKept (c : ℕ) (numbers : Numbers) : Type 0 where
      pub checkpoint : Checkpoint
      pub at : kept_at c table ≡ Some checkpoint
      pub reaches : reached_by (layout_pages l) checkpoint ≡ numbers

    kept : (c : ℕ) (numbers : Numbers) → (ledger_of l).kept c ≡ Some numbers → IsKept c numbers
    kept c numbers h = by (kept_at c table) refl h
      where
        inside : (a b : Numbers) → Some a ≡ Some b → a ≡ b
        inside a b e = cc

        by : (o : Option Checkpoint) → kept_at c table ≡ o
            → option_map (reached_by (layout_pages l)) o ≡ Some numbers → IsKept c numbers
        by None at h = cc
        by (Some k) at h =
            record { checkpoint = k; at = at; reaches = inside (reached_by (layout_pages l) k) numbers h }

    ledger : IsLedger (ledger_of l)
    ledger = record {
      exact = λ c numbers h.
          let k = kept c numbers h in
          let checked = found-all (IsChecked content) c (kept_by l.lists) k.checkpoint opened.checked k.at in
          subst (λ (n : Numbers). IsExact content c n) k.reaches
          (subst (λ (n : ℕ). IsExact content n (reached_by (layout_pages l) k.checkpoint))
          (numbered-found c (kept_by l.lists) k.checkpoint k.at) (exact-of k.checkpoint checked));
      bounded = opened.periods;
      latest_kept = there (ledger_of l).kept (ap (option_map (reached_by (layout_pages l))) latest-found);
      below = λ c numbers h.
          let k = kept c numbers h in
          let low = found-all IsNotAbove c (kept_by l.lists) k.checkpoint none-above k.at in
          omega (arith, low, numbered-found c (kept_by l.lists) k.checkpoint k.at);
    }
      where
        there : (f : ℕ → Option Numbers)
            → f table.latest.number ≡ Some (reached_by (layout_pages l) table.latest)
            → f table.latest.number ≡ Some (unwrap_or (f table.latest.number) (λ _. None))
        there f e = by (f table.latest.number) e
          where
            by : (o : Option Numbers) → o ≡ Some (reached_by (layout_pages l) table.latest)
                → o ≡ Some (unwrap_or o (λ _. None))
            by None e = cc
            by (Some n) e = refl

    sound : IsSoundPen l
    sound = record {
      ledger = ledger;
      trees_sound =
          All-weaker (IsChecked content)
          (λ (c : Checkpoint). IsTreeSound (layout_pages l) (root_of (checkpoint_root c))) sound-of
          (kept_by l.lists) opened.checked;
      latest = latest-found;
      last = opened.table.limit;
      store = opened.store;
    }

    -- ---- the world

    newest : HasTree (layout_pages l) table.latest
    newest = last_tree (layout_pages l) table.earlier table.latest trees

    world : World
    world = record {
      tree = newest.tree;
      dirty = false;
      copies = copies_of (layout_pages l) (kept_by l.lists) trees;
      mounts = [];
      given = 0;
    }

    latest-copy : copy_at world (latest world) ≡ Some (copy_of (layout_pages l) table.latest newest)
    unfolding world newest
    latest-copy =
        copies-last (layout_pages l) table.earlier table.latest trees
        (recursion_from_All IsBelow table.earlier earlier-below)

    is-world : IsWorld world
    unfolding world
    is-world = record {
      tree = is-tree (layout_pages l) limited table.latest newest;
      trees = found-tree (layout_pages l) limited (kept_by l.lists) trees;
      clean = λ _. ap (option_map (λ (copy : Copy). copy.tree)) latest-copy
          ∙ ap Some (copy_of-tree (layout_pages l) table.latest newest);
      numbers_rise = copies-sorted (layout_pages l) (kept_by l.lists) trees opened.table.rising;
      latest_kept = ap is_some latest-copy;
      numbers_fit = copies-fit (layout_pages l) (kept_by l.lists) trees in-limits;
      stamps_rise = copies-stamped (layout_pages l) (kept_by l.lists) trees opened.table.rising;
      mounts_rise = refl;
      mounts_given = refl;
      given_fits = refl;
      mounted = λ m n is. cc;
    }

    -- nothing differs from the latest checkpoint
    over-nothing : (i : ℕ) → holding_over l.lists.current.became newest.holding i ≡ newest.holding i
    over-nothing i =
        ap (λ (became : List (ℕ × Became)). holding_over became newest.holding i) opened.rest.unchanged

    same-holding : holding_over l.lists.current.became newest.holding ≡ newest.holding
    same-holding j i = over-nothing i j

    stands-over : StandsOver l.lists.current newest.holding newest.tree
    stands-over = record {
      sound = subst IsHolding (sym same-holding) newest.holds.sound;
      counts = record {
        first = let m = opened.rest.unmarked in omega (arith, m);
        last = let m = opened.rest.unmarked in omega (arith, m);
        freed = λ n is.
            let none : is_one_of [] n ≡ true =
            ap (λ (ns : List ℕ). is_one_of ns n) (sym opened.rest.none_freed) ∙ is in
            cc;
        filled = λ n low high. let m = opened.rest.unmarked in absurd (omega (arith, m, low, high));
        beyond = λ n low. inr (ap is_some (over-nothing n));
      };
      stands = record {
        means =
            subst (λ (h : Holding). MeansTree (inodes_of_holding h) newest.tree)
            (sym same-holding) newest.means.means;
        count = newest.means.count ∙ sym opened.rest.names;
      };
      few = few;
    }
      where
        few : l.lists.current.names ≤ 524277
        few =
            let most = (is-tree (layout_pages l) limited table.latest newest).count in
            let count = newest.means.count in
            let names = opened.rest.names in
            omega (arith, most, count, names)

    means-world : MeansWorld l world
    unfolding world
    means-world = record {
      world = is-world;
      tree = record { base = newest.holding; holds = newest.holds; stands = stands-over };
      dirty = sym opened.rest.clean;
      copies = copies-mean (layout_pages l) (kept_by l.lists) trees;
      mounts = sym (ap (map mount_of) opened.rest.unmounted);
      given = sym opened.rest.none_given;
    }

    is-pen : IsPen l
    is-pen = record { world = (world, means-world); sound = sound }

  pub opened_images_are_pens : ExactPeriodsAreExact → OpenedImagesArePens
  opened_images_are_pens exact_periods l opened = is-pen exact_periods l opened
