-- What the image of a volume means, and what is made of one image or read of it.
use Rattle.std.specs.Prelude.{◌≡◌, ℕ, List}
use Rattle.nl_types.specs.Plain.Trees.{Tree}
use Rattle.nl_types.specs.Plain.Worlds.{World}
use Rattle.nl_image.specs.Parts.{with_present_mark}
use Rattle.nl_commit.specs.Layout.{IsPen, Layout, MeansWorld}
use Rattle.nl_core.specs.PenImages.{CanBeClosed, IsPenImage}
use Rattle.nl_keep.specs.Forgotten.{Forgets}
use Rattle.nl_keep.specs.Lasting.{OnlyTidies}
use Rattle.nl_keep.specs.Stored.{KeepsTree, StoresTree}

-- the bytes are the image of a closed pen that means the world
pub record ImageMeans (image : List ℕ) (w : World) : Type 0 where
  pub layout : Layout
  pub pen : IsPen layout
  pub is_image : IsPenImage layout image
  pub closed : CanBeClosed layout.lists
  pub means : MeansWorld layout w

-- the same world, but for how many mount numbers were given
abbrev pub SameBut : World → World → Type 0
SameBut w v = record w { given = 0 } ≡ record v { given = 0 }

-- of whatever world the image was made, the tree is its current one
abbrev pub HasCurrent : Tree → List ℕ → Type 0
HasCurrent tree image = (w : World) → ImageMeans (with_present_mark image) w → tree ≡ w.tree

-- and here the tree is that of its checkpoint n
abbrev pub ReadsFromImage : ℕ → Tree → List ℕ → Type 0
ReadsFromImage n tree image = (w : World) → ImageMeans (with_present_mark image) w → KeepsTree n tree w

-- the tree is stored as snapshot n, where the volume may have been tidied first, to make room for it
pub record StoresPrepared (moment n : ℕ) (tree : Tree) (old new : World) : Type 0 where
  pub ready : World
  pub tidies : OnlyTidies moment old ready
  pub stores : StoresTree moment n tree ready new

-- of whatever world the old image was made, the new one is of one that comes of it so
abbrev pub InImage : (World → World → Type 0) → (old new : List ℕ) → Type 0
InImage Comes old new =
    (w : World) → ImageMeans (with_present_mark old) w
    → (before : World) × (after : World) × SameBut w before × Comes before after × ImageMeans new after

-- of that world with the tree stored
abbrev pub StoresInImage : (moment n : ℕ) → Tree → (old new : List ℕ) → Type 0
StoresInImage moment n tree old new = InImage (StoresPrepared moment n tree) old new

-- the checkpoints are forgotten, and what they leave is tidied
pub record ForgetsAndTidies (moment : ℕ) (numbers : List ℕ) (old new : World) : Type 0 where
  pub left : World
  pub forgets : Forgets numbers old left
  pub tidies : OnlyTidies moment left new

-- and here of that world with the checkpoints forgotten
abbrev pub ForgetsInImage : (moment : ℕ) → List ℕ → (old new : List ℕ) → Type 0
ForgetsInImage moment numbers old new = InImage (ForgetsAndTidies moment numbers) old new
