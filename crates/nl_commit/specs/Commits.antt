-- How commits change what readers see, and which of them may follow one another.
use Rattle.std.specs.Prelude.{◌≡◌, ◌≢◌, ℕ, ◌+◌, ◌-◌, ◌*◌, ◌<◌, ◌≤◌, List, [], ◌∷◌, ◌++◌, fold, length, replicate, slice_set, Option, None, Some}
use Rattle.std.specs.List.{AllByRecursion, filter}
use Rattle.std.specs.Option.{option_map}
use Rattle.nl_types.specs.declared.event.Mode.TheVariants.{Snapshot}
use Rattle.nl_types.specs.Blocks.Entries.{Place}
use Rattle.nl_types.specs.Blocks.Roots.{Pages}
use Rattle.nl_types.specs.Plain.Trees.{Tree}
use Rattle.nl_layout.specs.Root.{root_of}
use Rattle.nl_layout.specs.declared.root.Root.{Root}
use Rattle.nl_files.specs.CheckpointRoots.{IsTreeSound}
use Rattle.nl_cpfile.specs.Tables.{IsTable, kept_at, range_in, checkpoint_root, with_mode, with_next, without}
use Rattle.nl_cpfile.specs.declared.checkpoint.Checkpoint.{Checkpoint}
use Rattle.nl_commit.specs.Means.{RootMeans}
use Rattle.nl_commit.specs.Layout.{reached_by}
use Rattle.nl_commit.specs.Shown.{Shown, mounted_on, nothing, pages_shown, shown_at, whole_of}
use Rattle.nl_commit.specs.Volume.{is_other_mount}
use Rattle.nl_commit.specs.declared.commit.Commit.{Commit}
use Rattle.nl_commit.specs.declared.commit.Commit.TheVariants.{Freed, GivenBack, ModeSet, Mounted, RangeRemoved, Removed, Resized, Whole, Written}
use Rattle.nl_commit.specs.declared.commit.NewPage.{NewPage}
use Rattle.nl_commit.specs.declared.commit.ShownPage.{ShownPage}
use Rattle.nl_commit.specs.declared.commit.Written.{Written as NewCheckpoint}

-- ---- numbers

-- a page from checkpoint c on
abbrev pub begun_at : ℕ → NewPage → ShownPage
begun_at c b = record { page = b.page; period = record { start = c; end = None } }

-- a page that ends at checkpoint c
abbrev pub ended_at : ℕ → ShownPage → ShownPage
ended_at c p = record { page = p.page; period = record { start = p.period.start; end = Some c } }

-- the births of checkpoint c stand under their numbers, one after another
abbrev pub with_births : ℕ → List NewPage → List (Option ShownPage) → List (Option ShownPage)
with_births c [] numbers = numbers
with_births c (b ∷ births) numbers = with_births c births (slice_set numbers b.number (Some (begun_at c b)))

-- each of these numbers ends at checkpoint c
abbrev pub with_ends : ℕ → List ℕ → List (Option ShownPage) → List (Option ShownPage)
with_ends c [] numbers = numbers
with_ends c (v ∷ ends) numbers =
    with_ends c ends (slice_set numbers v (option_map (ended_at c) (shown_at numbers v)))

-- each of these numbers is out of use
abbrev pub without_numbers : List ℕ → List (Option ShownPage) → List (Option ShownPage)
without_numbers [] numbers = numbers
without_numbers (v ∷ gone) numbers = without_numbers gone (slice_set numbers v None)

-- there are numbers for so many segments, the new ones out of use
abbrev pub with_room : (segments blocks : ℕ) → List (Option ShownPage) → List (Option ShownPage)
with_room segments blocks numbers = numbers ++ replicate (segments * blocks + 1 - length numbers) None

abbrev pub numbers_written : NewCheckpoint → List (Option ShownPage) → List (Option ShownPage)
numbers_written w numbers =
    with_births w.checkpoint.number w.births (with_ends w.checkpoint.number w.ends numbers)

-- ---- the change that a commit makes

abbrev pub applied : Shown → Commit → Shown
applied x (Whole w) = whole_of w
applied x (Written w) =
    record x { numbers = numbers_written w x.numbers; table = with_next w.checkpoint x.table }
applied x (ModeSet n mode) = record x { table = with_mode n mode x.table }
applied x (Removed n) = record x { table = without (n ∷ []) x.table }
applied x (RangeRemoved first last) = record x { table = without (range_in first last x.table) x.table }
applied x (Mounted mount) = record x { mounts = x.mounts ++ mount ∷ []; given = mount.number }
applied x (GivenBack m) = record x { mounts = filter (is_other_mount m) x.mounts }
applied x (Freed gone) = record x { numbers = without_numbers gone x.numbers }
applied x (Resized segments blocks) = record x { numbers = with_room segments blocks x.numbers }

-- what readers see after these commits
abbrev pub shown_after : List Commit → Shown
shown_after log = fold applied nothing log

-- ---- what is true of every state

-- the checkpoint of a root stands for a tree
pub record HasTree (pages : Pages) (root : Root) : Type 0 where
  pub sound : IsTreeSound pages (root_of root)
  pub tree : Tree
  pub means : RootMeans pages root tree

-- Each kept checkpoint stands for a tree. A mount was given its number, and its checkpoint is a kept
-- snapshot.
pub record IsShownState (x : Shown) : Type 0 where
  pub table : IsTable x.table
  pub trees : (n : ℕ) (c : Checkpoint) → kept_at n x.table ≡ Some c
      → HasTree (pages_shown x) (checkpoint_root c)
  pub given : (m n : ℕ) → mounted_on x m ≡ Some n → m ≤ x.given
  pub mounted : (m n : ℕ) → mounted_on x m ≡ Some n
      → (c : Checkpoint) × (kept_at n x.table ≡ Some c) × (c.mode ≡ Snapshot)

-- ---- which commits may follow

-- a checkpoint keeps its root, its places and their pages, and so its tree
pub record KeepsCheckpoint (before now : Pages) (old new : Checkpoint) : Type 0 where
  pub root : checkpoint_root new ≡ checkpoint_root old
  pub places : reached_by now new ≡ reached_by before old
  pub pages : (q : Place) (v : ℕ) → reached_by before old q ≡ Some v → now v ≡ before v
  pub trees : (t : Tree) → RootMeans before (checkpoint_root old) t → RootMeans now (checkpoint_root new) t

-- so does each checkpoint that isn't taken out
abbrev pub KeepsCheckpoints : Shown → Shown → Type 0
KeepsCheckpoints x y =
    (n : ℕ) (c d : Checkpoint) → kept_at n x.table ≡ Some c → kept_at n y.table ≡ Some d
    → KeepsCheckpoint (pages_shown x) (pages_shown y) c d

-- numbers ascend, so none comes twice; a mount that is given back is there; a volume never shrinks; and a
-- history begins once
abbrev pub IsNew : Shown → Commit → Type 0
IsNew x (Whole w) = ⊥
IsNew x (Written w) = x.table.latest.number < w.checkpoint.number
IsNew x (Mounted mount) = x.given < mount.number
IsNew x (GivenBack m) = (n : ℕ) × (mounted_on x m ≡ Some n)
IsNew x (ModeSet n mode) = Unit {0}
IsNew x (Removed n) = Unit {0}
IsNew x (RangeRemoved first last) = Unit {0}
IsNew x (Freed gone) = Unit {0}
IsNew x (Resized segments blocks) = length x.numbers ≤ segments * blocks + 1

pub record IsNext (x : Shown) (c : Commit) : Type 0 where
  pub state : IsShownState (applied x c)
  pub keeps : KeepsCheckpoints x (applied x c)
  pub new : IsNew x c

abbrev pub AllNext : Shown → List Commit → Type 0
AllNext x [] = Unit {0}
AllNext x (c ∷ commits) = IsNext x c × AllNext (applied x c) commits

-- the first commit shows the whole volume, and each later one may follow those before it
abbrev pub IsHistory : List Commit → Type 0
IsHistory (Whole w ∷ commits) = IsShownState (whole_of w) × AllNext (whole_of w) commits
IsHistory log = ⊥

-- ---- laws of histories

-- The mount is still there, of the same checkpoint, which is still a snapshot, and has the places, the
-- pages and the tree that it had.
pub record StillShows (x y : Shown) (m n : ℕ) (c : Checkpoint) : Type 0 where
  pub mounted : mounted_on y m ≡ Some n
  pub now : Checkpoint
  pub kept : kept_at n y.table ≡ Some now
  pub snapshot : now.mode ≡ Snapshot
  pub keeps : KeepsCheckpoint (pages_shown x) (pages_shown y) c now

-- what a mount shows in a state it shows in each later one, until it is given back
abbrev pub MountsStillShow : Type 0
MountsStillShow =
    (x : Shown) (commits : List Commit) (m n : ℕ) (c : Checkpoint) → IsShownState x → AllNext x commits
    → mounted_on x m ≡ Some n → kept_at n x.table ≡ Some c
    → AllByRecursion (λ (d : Commit). d ≢ GivenBack m) commits → StillShows x (fold applied x commits) m n c
