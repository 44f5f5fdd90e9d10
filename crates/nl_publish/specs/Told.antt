-- What a told history says of those that go on from it, and what runs under the lock mean.
use Rattle.std.specs.Prelude.{◌≡◌, ◌<◌, ℕ, List, None, Some, length}
use mathlib.Core.List.{IsPrefix}
use Rattle.nl_types.specs.declared.event.Event.{Event}
use Rattle.nl_types.specs.Plain.Trees.{Tree}
use Rattle.nl_types.specs.Plain.Worlds.{Copy, Reply, World, copy_at}
use Rattle.nl_cpfile.specs.Tables.{kept_at, checkpoint_root}
use Rattle.nl_cpfile.specs.declared.checkpoint.Checkpoint.{Checkpoint}
use Rattle.nl_commit.specs.Commits.{IsHistory, IsShownState, shown_after}
use Rattle.nl_commit.specs.Layout.{MeansWorld, Runs}
use Rattle.nl_commit.specs.Means.{RootMeans}
use Rattle.nl_commit.specs.Notes.{shared}
use Rattle.nl_commit.specs.Shown.{Shown, mounted_on, pages_shown}
use Rattle.nl_commit.specs.declared.commit.Commit.{Commit}
use Rattle.nl_publish.specs.Histories.{IsBegun}
use Rattle.nl_publish.specs.Locks.{Goes, HeldPen, IsHeldPen}
use Rattle.nl_publish.specs.Mounts.{Claim, IsClaim}

-- a kept checkpoint means the tree
pub record TreeOn (x : Shown) (n : ℕ) (t : Tree) : Type 0 where
  pub checkpoint : Checkpoint
  pub kept : kept_at n x.table ≡ Some checkpoint
  pub means : RootMeans (pages_shown x) (checkpoint_root checkpoint) t

-- the copy of a number in a world is what a state shows under it
pub record ShowsCopy (x : Shown) (n : ℕ) (w : World) : Type 0 where
  pub copy : Copy
  pub kept : copy_at w n ≡ Some copy
  pub shown : TreeOn x n copy.tree

-- a state shows each copy of a world under its number
abbrev pub ShowsWorld : Shown → World → Type 0
ShowsWorld x w = (n : ℕ) (copy : Copy) → copy_at w n ≡ Some copy → TreeOn x n copy.tree

-- so does what is published, where it is all of the history, of each world that the pen means
abbrev pub PublishedWorldsAreShown : Type 0
PublishedWorldsAreShown = (h : HeldPen) (w : World) → IsHeldPen h → h.published ≡ h.history → MeansWorld h.layout w
    → ShowsWorld (shown_after h.published) w

-- a checkpoint that is still kept has the trees that it had
abbrev pub KeptTreesStay : Type 0
KeptTreesStay = (log later : List Commit) (n : ℕ) (t : Tree) (c : Checkpoint) → IsHistory log → IsBegun later
    → IsPrefix log later → TreeOn (shown_after log) n t → kept_at n (shown_after later).table ≡ Some c
    → TreeOn (shown_after later) n t

-- a history shows a state
abbrev pub HistoriesShowStates : Type 0
HistoriesShowStates = (log : List Commit) → IsHistory log → IsShownState (shown_after log)

-- what a mount shows: the checkpoint that it names, with each tree that this had when the mount was told
pub record ShowsTold (m : Claim) (log : List Commit) (n : ℕ) : Type 0 where
  pub checkpoint : n ≡ m.checkpoint
  pub trees : (t : Tree) → TreeOn (shown_after m.told.commits) m.checkpoint t → TreeOn (shown_after log) n t

-- so it is in every history that goes on from what the mount was told
abbrev pub MountsStay : Type 0
MountsStay = (m : Claim) (log : List Commit) (n : ℕ) → IsClaim m → IsHistory log → IsPrefix m.told.commits log
    → mounted_on (shown_after log) m.number ≡ Some n → ShowsTold m log n

-- and in none that ends before the mount's own commit is the mount shown
abbrev pub MountsBegin : Type 0
MountsBegin = (m : Claim) (log : List Commit) → IsClaim m → IsBegun m.told.commits → IsHistory log
    → IsPrefix log m.told.commits → length log < length m.told.commits
    → mounted_on (shown_after log) m.number ≡ None

-- what ran under the lock leads on beside each world that the pen meant
abbrev pub LockedRunsLeadOn : Type 0
LockedRunsLeadOn = (old new : HeldPen) (events : List Event) (replies : List Reply)
    → Goes old events replies new → Runs shared old.layout events replies new.layout
