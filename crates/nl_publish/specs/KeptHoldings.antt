-- What kept checkpoints hold while a history goes on.
use Rattle.std.specs.Prelude.{◌≡◌, ℕ, List, Some}
use mathlib.Core.List.{IsPrefix}
use Rattle.nl_layout.specs.Root.{root_of}
use Rattle.nl_tree.specs.Held.{Holding}
use Rattle.nl_files.specs.CheckpointTrees.{HoldsTree}
use Rattle.nl_cpfile.specs.Tables.{kept_at, checkpoint_root}
use Rattle.nl_cpfile.specs.declared.checkpoint.Checkpoint.{Checkpoint}
use Rattle.nl_commit.specs.Commits.{IsHistory, shown_after}
use Rattle.nl_commit.specs.Shown.{Shown, pages_shown}
use Rattle.nl_commit.specs.declared.commit.Commit.{Commit}
use Rattle.nl_publish.specs.Histories.{IsBegun}
use Rattle.nl_publish.specs.Mounts.{Claim, IsClaim}

-- a state keeps a checkpoint, whose inodes hold this
pub record HoldsOn (x : Shown) (n : ℕ) (held : Holding) : Type 0 where
  pub checkpoint : Checkpoint
  pub kept : kept_at n x.table ≡ Some checkpoint
  pub holds : HoldsTree (pages_shown x) (root_of (checkpoint_root checkpoint)) held

-- a checkpoint that is still kept in a history that goes on holds what it held, inode by inode
abbrev pub KeptHoldingsStay : Type 0
KeptHoldingsStay = (log later : List Commit) (n : ℕ) (held now : Holding) → IsHistory log → IsBegun later
    → IsPrefix log later → HoldsOn (shown_after log) n held → HoldsOn (shown_after later) n now → now ≡ held

-- a mount's checkpoint held something when the mount was told
abbrev pub MountsHold : Type 0
MountsHold = (m : Claim) → IsClaim m → IsBegun m.told.commits
    → IsHistory m.told.commits × ((held : Holding) × HoldsOn (shown_after m.told.commits) m.checkpoint held)
