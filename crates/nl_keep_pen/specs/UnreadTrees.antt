-- Kept checkpoints of which no file is read but manifests.
use Rattle.std.specs.Prelude.{◌≡◌, ℕ}
use Rattle.nl_types.specs.Plain.Trees.{Tree}
use Rattle.nl_manifests.specs.Unread.{unread}
use Rattle.nl_keep.specs.Shown.{ShowsKept}
use Rattle.nl_keep.specs.Volumes.{Meaning}

-- the tree is that of a checkpoint that is shown, with no bytes of files but manifests
pub record ShowsUnread (Means : Meaning) (n : ℕ) (tree : Tree) : Type 0 where
  pub whole : Tree
  pub shown : ShowsKept Means n whole
  pub is : tree ≡ unread whole
