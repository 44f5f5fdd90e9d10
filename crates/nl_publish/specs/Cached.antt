-- Pages of files that are kept aside while a history goes on.
use Rattle.std.specs.Prelude.{◌≡◌, ℕ, ◌≤◌, List, Some}
use mathlib.Core.List.{IsPrefix}
use Rattle.nl_layout.specs.Root.{root_of}
use Rattle.nl_tree.specs.Held.{Holding, held_block}
use Rattle.nl_files.specs.CheckpointTrees.{HoldsTree}
use Rattle.nl_cpfile.specs.Tables.{kept_at, checkpoint_root}
use Rattle.nl_cpfile.specs.declared.checkpoint.Checkpoint.{Checkpoint}
use Rattle.nl_commit.specs.Commits.{IsHistory, shown_after}
use Rattle.nl_commit.specs.Shown.{pages_shown}
use Rattle.nl_commit.specs.declared.commit.Commit.{Commit}
use Rattle.nl_publish.specs.Histories.{IsBegun}

-- The history has given the checkpoint's number. Where it still keeps the checkpoint, the file of the inode
-- has this page there at the index.
pub record IsCachedPage (log : List Commit) (checkpoint inode index : ℕ) (page : List ℕ) : Type 0 where
  pub history : IsHistory log
  pub given : checkpoint ≤ (shown_after log).table.latest.number
  pub block : (c : Checkpoint) (held : Holding) → kept_at checkpoint (shown_after log).table ≡ Some c
      → HoldsTree (pages_shown (shown_after log)) (root_of (checkpoint_root c)) held
      → held_block (held inode) index ≡ Some page

-- so it is in every history that goes on from it
abbrev pub CachedPagesStay : Type 0
CachedPagesStay =
    (log later : List Commit) (checkpoint inode index : ℕ) (page : List ℕ) → IsBegun later
    → IsPrefix log later
    → IsCachedPage log checkpoint inode index page → IsCachedPage later checkpoint inode index page
