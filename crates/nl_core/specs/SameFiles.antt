-- Files that are one in two checkpoints of a pen.
use Rattle.std.specs.Prelude.{◌≡◌, ℕ, List, Some}
use Rattle.nl_types.specs.declared.reply.Object.TheVariants.{File}
use Rattle.nl_types.specs.Plain.Paths.{Path}
use Rattle.nl_types.specs.Plain.Trees.{lookup}
use Rattle.nl_types.specs.Plain.Worlds.{World, Copy, copy_at}
use Rattle.nl_commit.specs.Layout.{Layout, MeansWorld, layout_pages}
use Rattle.nl_events.specs.SameFiles.{IsOneInode}

-- the path leads to one inode in both checkpoints, as the pen holds them: kind, size and root are equal
abbrev pub HaveOneInode : Layout → (old new : ℕ) → Path → Type 0
HaveOneInode l old new path = IsOneInode (layout_pages l) l.lists.table old new path

-- ---- in the world

-- checkpoint n is kept, and its tree has a file of these bytes at the path
pub record HasFile (n : ℕ) (path : Path) (bytes : List ℕ) (w : World) : Type 0 where
  pub copy : Copy
  pub is_kept : copy_at w n ≡ Some copy
  pub has : lookup copy.tree path ≡ Some (File bytes)

-- the trees of both checkpoints have the same file at the path
abbrev pub HaveSameFile : (old new : ℕ) → Path → World → Type 0
HaveSameFile old new path w = (bytes : List ℕ) × HasFile old path bytes w × HasFile new path bytes w

-- they have in each world that the pen means
abbrev pub HaveOneFile : Layout → (old new : ℕ) → Path → Type 0
HaveOneFile l old new path = (w : World) → MeansWorld l w → HaveSameFile old new path w
