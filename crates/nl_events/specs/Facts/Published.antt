-- The world that a written checkpoint leaves.
use Rattle.std.proofs.Common.{◌≡◌, ℕ, ◌+◌, ◌<◌, true, false, List, [], ◌∷◌, ◌++◌, refl, ap, sym, ◌∙◌, subst, arith}
use Rattle.std.specs.Prelude.{All, IsTrue, map, Option, Some, None, Ok, Err, max, nat_le}
use Rattle.std.specs.List.{AllZip}
use Rattle.std.specs.Option.{option_map_or}
use Rattle.std.specs.Ordering.{nat_cmp, eq_by_cmp, is_lt}
use Rattle.std.specs.FinMap.{find, is_sorted}
use Rattle.std.specs.FinMap.Entries.{below_all}
use Rattle.std.proofs.lemmas.Bool.{and_parts, cond-true, cond-false, eq-eqb, lt-leb, ne_eqb}
use Rattle.std.specs.Cmp.{unsigned_tied}
use Rattle.std.proofs.lemmas.List.Elements.{All-head, All-tail}
use Rattle.nl_types.specs.declared.error.VolError.TheVariants.{NumbersSpent}
use Rattle.nl_types.specs.declared.event.Mode.{Mode}
use Rattle.nl_types.specs.declared.event.Event.TheVariants as event
use Rattle.nl_types.specs.declared.reply.Answer.TheVariants as answer
use Rattle.nl_types.specs.Plain.Limits.{checkpoint_number_limit}
use Rattle.nl_types.specs.Blocks.Roots.{Pages}
use Rattle.nl_types.specs.Plain.Trees.{Tree}
use Rattle.nl_types.specs.Plain.Worlds.{IsWorld, World, Reply, Copy, copy_at, greatest, numbers, latest, latest_stamp, step}
use Rattle.nl_types.specs.Facts.NumberedLists.{before-lt}
use Rattle.nl_layout.specs.Root.{root_of}
use Rattle.nl_tree.specs.Became.{Current, holding_over}
use Rattle.nl_tree.specs.Held.{Holding}
use Rattle.nl_files.specs.Staying.{CheckpointStays}
use Rattle.nl_files.specs.TreeLaws.{StandsOverLatest}
use Rattle.nl_cpfile.specs.declared.checkpoint.Checkpoint.{Checkpoint}
use Rattle.nl_commit.specs.Layout.{HasWrittenCheckpoint, IsSoundPen, Layout, MeansWorld, ledger_of, layout_pages}
use Rattle.nl_commit.specs.Means.{CopyMeans, CurrentMeans, Means, RootMeans}
use Rattle.nl_cpfile.specs.Tables.{checkpoint_root}
use Rattle.nl_commit.specs.Volume.{Lists, kept_by, latest_root, mount_of}
use Rattle.nl_events.specs.Facts.Checkpoints.{kept-next, kept-stay, latest-next, number-next, stands-behind}
use Rattle.nl_events.specs.Facts.Ledgers.{stands-latest}

-- ---- the latest copy

-- a number below those of all copies is below the last one's
below-push : (n : ℕ) (front : List (ℕ × Copy)) (last : ℕ × Copy)
    → IsTrue (below_all nat_cmp n (front ++ last ∷ [])) → n < last.0
below-push n [] last below = before-lt n last.0 (and_parts (is_lt (nat_cmp n last.0)) true below).0
below-push n (copy ∷ front) last below =
    below-push n front last
    (and_parts (is_lt (nat_cmp n copy.0)) (below_all nat_cmp n (front ++ last ∷ [])) below).1

-- where copies ascend, the last one has the greatest number
greatest-push : (front : List (ℕ × Copy)) (last : ℕ × Copy) → IsTrue (is_sorted nat_cmp (front ++ last ∷ []))
    → greatest (numbers (front ++ last ∷ [])) ≡ last.0
greatest-push [] last sorted = omega arith
greatest-push (copy ∷ front) last sorted =
    let parts =
    and_parts (below_all nat_cmp copy.0 (front ++ last ∷ []))
    (is_sorted nat_cmp (front ++ last ∷ [])) sorted in
    omega (arith, below-push copy.0 front last parts.0, greatest-push front last parts.1)

-- a greater number does not tie
apart : (n m : ℕ) → m < n → eq_by_cmp nat_cmp n m ≡ false
apart n m less = unsigned_tied n m ∙ ne_eqb n m (λ same. absurd (omega (arith, less, same)))

-- a number ties with itself
tied : (n : ℕ) → eq_by_cmp nat_cmp n n ≡ true
tied n = unsigned_tied n n ∙ eq-eqb n n refl

-- and the last copy is found at its number
pub find-push : (front : List (ℕ × Copy)) (last : ℕ × Copy) → IsTrue (is_sorted nat_cmp (front ++ last ∷ []))
    → find nat_cmp last.0 (front ++ last ∷ []) ≡ Some last.1
find-push [] last sorted = cond-true (eq_by_cmp nat_cmp last.0 last.0) (Some last.1) None (tied last.0)
find-push (copy ∷ front) last sorted =
    let parts =
    and_parts (below_all nat_cmp copy.0 (front ++ last ∷ []))
    (is_sorted nat_cmp (front ++ last ∷ [])) sorted in
    cond-false (eq_by_cmp nat_cmp last.0 copy.0) (Some copy.1) (find nat_cmp last.0 (front ++ last ∷ []))
    (apart last.0 copy.0 (below-push copy.0 front last parts.0))
    ∙ find-push front last parts.1

-- the last copy stands for the last checkpoint
pub record EndsIn (pages : Pages) (c : Checkpoint) (copies : List (ℕ × Copy)) : Type 0 where
  pub front : List (ℕ × Copy)
  pub last : ℕ × Copy
  pub is : copies ≡ front ++ last ∷ []
  pub means : CopyMeans pages c last

-- where copies stand for checkpoints, so does the last one
pub ends-in : (pages : Pages) (kept : List Checkpoint) (c : Checkpoint) (copies : List (ℕ × Copy))
    → AllZip (CopyMeans pages) (kept ++ c ∷ []) copies → EndsIn pages c copies
ends-in pages [] c [] means = absurd means
ends-in pages [] c (copy ∷ []) means = record { front = []; last = copy; is = refl; means = means.0 }
ends-in pages [] c (copy ∷ more ∷ copies) means = absurd means.1
ends-in pages (k ∷ kept) c [] means = absurd means
ends-in pages (k ∷ kept) c (copy ∷ copies) means =
    let rest = ends-in pages kept c copies means.1 in
    record {
      front = copy ∷ rest.front;
      last = rest.last;
      is = ap (λ more. copy ∷ more) rest.is;
      means = rest.means;
    }

module _ (pages : Pages) (l : Lists) (w : World) (means : Means pages l w) where
  -- how the copies end
  pub ends : EndsIn pages l.table.latest w.copies
  ends = ends-in pages l.table.earlier l.table.latest w.copies means.copies

  -- they ascend
  sorted : IsTrue (is_sorted nat_cmp (ends.front ++ ends.last ∷ []))
  sorted =
      subst (λ (copies : List (ℕ × Copy)). IsTrue (is_sorted nat_cmp copies)) ends.is means.world.numbers_rise

  -- the latest copy is the last one
  pub latest-copy : copy_at w (latest w) ≡ Some ends.last.1
  latest-copy =
      ap (λ copies. find nat_cmp (greatest (numbers copies)) copies) ends.is
      ∙ ap (λ n. find nat_cmp n (ends.front ++ ends.last ∷ [])) (greatest-push ends.front ends.last sorted)
      ∙ find-push ends.front ends.last sorted

  -- the latest number of a world is the latest checkpoint's
  pub latest-means : latest w ≡ l.table.latest.number
  latest-means =
      ap (λ copies. greatest (numbers copies)) ends.is ∙ greatest-push ends.front ends.last sorted
      ∙ ends.means.number

  -- and so is the latest stamp
  pub latest_stamp-means : latest_stamp w ≡ l.table.latest.stamp
  latest_stamp-means =
      let stamp_of : Option Copy → ℕ = λ found. option_map_or (λ (copy : Copy). copy.stamp) found 0 in
      ap (λ copies. stamp_of (find nat_cmp (greatest (numbers copies)) copies)) ends.is
      ∙ ap (λ n. stamp_of (find nat_cmp n (ends.front ++ ends.last ∷ [])))
      (greatest-push ends.front ends.last sorted)
      ∙ ap stamp_of (find-push ends.front ends.last sorted) ∙ ends.means.stamp

-- ---- copies

-- one more checkpoint and its copy
pub copies-push : (pages : Pages) (kept : List Checkpoint) (copies : List (ℕ × Copy)) (c : Checkpoint)
    (copy : ℕ × Copy)
    → AllZip (CopyMeans pages) kept copies → CopyMeans pages c copy
    → AllZip (CopyMeans pages) (kept ++ c ∷ []) (copies ++ copy ∷ [])
copies-push pages [] [] c copy means here = (here, means)
copies-push pages [] (d ∷ copies) c copy means here = absurd means
copies-push pages (k ∷ kept) [] c copy means here = absurd means
copies-push pages (k ∷ kept) (d ∷ copies) c copy means here =
    (means.0, copies-push pages kept copies c copy means.1 here)

-- a checkpoint that stays stands for its copy
copy-stays : (pages more : Pages) (c : Checkpoint) (copy : ℕ × Copy)
    → CheckpointStays pages more (root_of (checkpoint_root c)) → CopyMeans pages c copy
    → CopyMeans more c copy
copy-stays pages more c copy stays means = record {
  number = means.number;
  mode = means.mode;
  minor = means.minor;
  stamp = means.stamp;
  inodes = means.inodes;
  tree = record {
    held = means.tree.held;
    holds = record {
      stores = stays.stores means.tree.held means.tree.holds.stores;
      sound = means.tree.holds.sound;
    };
    means = means.tree.means;
  };
}

-- and so do all
pub copies-stay : (pages more : Pages) (kept : List Checkpoint) (copies : List (ℕ × Copy))
    → All (λ (c : Checkpoint). CheckpointStays pages more (root_of (checkpoint_root c))) kept
    → AllZip (CopyMeans pages) kept copies → AllZip (CopyMeans more) kept copies
copies-stay pages more [] [] stay means = means
copies-stay pages more [] (copy ∷ copies) stay means = absurd means
copies-stay pages more (c ∷ kept) [] stay means = absurd means
copies-stay pages more (c ∷ kept) (copy ∷ copies) stay means = (
  copy-stays pages more c copy
      (All-head (λ (c : Checkpoint). CheckpointStays pages more (root_of (checkpoint_root c))) c kept stay)
      means.0,
  copies-stay pages more kept copies
      (All-tail (λ (c : Checkpoint). CheckpointStays pages more (root_of (checkpoint_root c))) c kept stay)
      means.1,
)

-- ---- the next checkpoint

-- a tree that stands over the latest checkpoint is meant
pub current-means : (l : Layout) (base : Holding) (tree : Tree)
    → StandsOverLatest (ledger_of l) (root_of (latest_root l.lists)) l.lists.current base tree
    → CurrentMeans (layout_pages l) (latest_root l.lists) l.lists.current tree
current-means l base tree stands = record {
  base = base;
  holds = record { stores = stands.latest.stores; sound = stands.base_sound };
  stands = stands.stands;
}

-- where nothing differs from the checkpoint, that stands for the tree too
pub root-means : (l : Layout) (now : Current) (base : Holding) (tree : Tree)
    → StandsOverLatest (ledger_of l) (root_of (latest_root l.lists)) (record now { became = [] }) base tree
    → RootMeans (layout_pages l) (latest_root l.lists) tree
root-means l now base tree stands = record {
  held = base;
  holds = record { stores = stands.latest.stores; sound = stands.base_sound };
  means = record { sound = stands.base_sound; means = stands.stands.stands.means };
}

-- the copy that it makes
abbrev copy_behind : World → Mode → ℕ → Copy
copy_behind w mode moment =
    record { tree = w.tree; mode = mode; minor = false; stamp = max moment (latest_stamp w) }

-- the world behind it
abbrev world_behind : World → Mode → ℕ → World
world_behind w mode moment =
    record w { dirty = false; copies = w.copies ++ (latest w + 1, copy_behind w mode moment) ∷ [] }

module _ (old new : Layout) (mode : Mode) (moment : ℕ) (sound : IsSoundPen old)
    (writes : HasWrittenCheckpoint mode moment old new)
    (cleaned : Reply) (w : World) (means : MeansWorld old w) where
  -- the world takes the step
  stepped : step cleaned w (event.Checkpoint mode moment)
      ≡ (Ok (answer.Checkpoint new.lists.table.latest.number), world_behind w mode moment)
  stepped =
      let number : latest w ≡ old.lists.table.latest.number =
      latest-means (layout_pages old) old.lists w means in
      let next : latest w + 1 ≡ new.lists.table.latest.number =
      ap (λ n. n + 1) number ∙ sym (number-next old new mode moment writes) in
      let left = writes.left in
      subst (λ n.
      step cleaned w (event.Checkpoint mode moment)
      ≡ (Ok (answer.Checkpoint n), world_behind w mode moment))
      next
      (cond-false (nat_le checkpoint_number_limit (latest w + 1)) (Err NumbersSpent, w)
      (Ok (answer.Checkpoint (latest w + 1)), world_behind w mode moment)
      (lt-leb checkpoint_number_limit (latest w + 1) (omega (arith, number, left))))

  abbrev held : Holding
  held = holding_over old.lists.current.became means.tree.base

  stands : StandsOverLatest (ledger_of new) (root_of (latest_root new.lists)) new.lists.current held w.tree
  stands =
      stands-behind old new mode moment sound means.tree.base w.tree
      (stands-latest old sound w.tree means.tree) writes

  current : new.lists.current ≡ record old.lists.current { became = [] }
  current = ap (λ (l : Lists). l.current) writes.lists

  -- the new checkpoint stands for the copy
  copied : CopyMeans (layout_pages new) new.lists.table.latest (latest w + 1, copy_behind w mode moment)
  copied = record {
    number =
        ap (λ n. n + 1) (latest-means (layout_pages old) old.lists w means)
        ∙ sym (number-next old new mode moment writes);
    mode = sym (ap (λ (c : Checkpoint). c.mode) (latest-next old new mode moment writes));
    minor = sym (ap (λ (c : Checkpoint). c.minor) (latest-next old new mode moment writes));
    stamp = ap (max moment) (latest_stamp-means (layout_pages old) old.lists w means)
        ∙ sym (ap (λ (c : Checkpoint). c.stamp) (latest-next old new mode moment writes));
    inodes =
        ap (λ (c : Checkpoint). c.inodes) (latest-next old new mode moment writes)
        ∙ sym means.tree.stands.stands.count;
    tree = root-means new old.lists.current held w.tree
        (subst (λ (now : Current).
        StandsOverLatest (ledger_of new) (root_of (latest_root new.lists)) now held w.tree)
        current stands);
  }

  copies_behind : AllZip (CopyMeans (layout_pages new)) (kept_by new.lists)
      (world_behind w mode moment).copies
  copies_behind =
      subst (λ (kept : List Checkpoint).
      AllZip (CopyMeans (layout_pages new)) kept (world_behind w mode moment).copies)
      (sym (kept-next old new mode moment writes))
      (copies-push (layout_pages new) (kept_by old.lists) w.copies new.lists.table.latest
      (latest w + 1, copy_behind w mode moment)
      (copies-stay (layout_pages old) (layout_pages new) (kept_by old.lists) w.copies
      (kept-stay old new mode moment writes sound) means.copies)
      copied)

  -- what is left stands for the world behind the step
  means_behind : IsWorld (world_behind w mode moment) → MeansWorld new (world_behind w mode moment)
  means_behind world = record {
    world = world;
    tree = current-means new held w.tree stands;
    dirty = sym (ap (λ (l : Lists). l.dirty) writes.lists);
    copies = copies_behind;
    mounts = means.mounts ∙ sym (ap (λ (l : Lists). map mount_of l.mounts) writes.lists);
    given = means.given ∙ sym (ap (λ (l : Lists). l.given) writes.lists);
  }

  -- the world that the step leaves
  pub means-published : (after : World) × (IsWorld after → MeansWorld new after)
      × (step cleaned w (event.Checkpoint mode moment)
      ≡ (Ok (answer.Checkpoint new.lists.table.latest.number), after))
  means-published = (world_behind w mode moment, means_behind, stepped)
