-- A volume that was opened of an image, and when what is done with it is refused.
use Rattle.std.specs.Prelude.{◌≡◌, ◌⊎◌, ℕ, List, None, Some}
use Rattle.nl_types.specs.declared.error.VolError.{VolError}
use Rattle.nl_types.specs.declared.error.VolError.TheVariants.{Fault, Memory, NoCheckpoint}
use Rattle.nl_types.specs.Plain.Trees.{Tree}
use Rattle.nl_types.specs.Plain.Worlds.{World, Copy, copy_at}
use Rattle.nl_image.specs.Parts.{with_present_mark}
use Rattle.nl_commit.specs.Layout.{IsPen, Layout}
use Rattle.nl_core.specs.PenImages.{CanBeClosed, IsPenImage}
use Rattle.nl_folders.specs.declared.folder.FolderError.{FolderError}
use Rattle.nl_folders.specs.Refusals.{RefusesTree}
use Rattle.nl_keep.specs.declared.storing.KeepError.{KeepError}
use Rattle.nl_keep.specs.declared.storing.KeepError.TheVariants.{Refused}
use Rattle.nl_keep.specs.Lasting.{OnlyTidies}
use Rattle.nl_keep.specs.Refusals.{RefusesStore, RefusesToForgetAll, passed_on}

-- the volume is a pen of which nothing is dirty or mounted, and its image is these bytes under the present
-- mark
pub record IsOpenedOf (image : List ℕ) (l : Layout) : Type 0 where
  pub pen : IsPen l
  pub is_image : IsPenImage l (with_present_mark image)
  pub closed : CanBeClosed l.lists

-- the bytes are the image of a pen of which nothing is dirty or mounted
pub record IsClosedTo (l : Layout) (image : List ℕ) : Type 0 where
  pub pen : IsPen l
  pub is_image : IsPenImage l image
  pub closed : CanBeClosed l.lists

-- ---- refusals

-- memory lacks, or no call can name a path of the tree
abbrev pub RefusesKept : Tree → KeepError → Type 0
RefusesKept tree e = (error : FolderError) × (e ≡ passed_on error) × RefusesTree tree error

-- the tree of checkpoint n isn't read: memory lacks, it isn't kept, or no call can name a path of its tree
abbrev pub RefusesToRead : ℕ → World → KeepError → Type 0
RefusesToRead n w e =
    (e ≡ Refused Memory) ⊎ ((e ≡ Refused NoCheckpoint) × (copy_at w n ≡ None))
    ⊎ ((copy : Copy) × (copy_at w n ≡ Some copy) × RefusesKept copy.tree e)

-- the tree isn't stored in the world, which may have been tidied first
pub record RefusesPrepared (moment : ℕ) (wanted : Tree) (w : World) (e : KeepError) : Type 0 where
  pub ready : World
  pub tidies : OnlyTidies moment w ready
  pub refuses : RefusesStore wanted ready e

-- one of the checkpoints stays, the device fails, or memory lacks
abbrev pub RefusesForgetting : List ℕ → World → VolError → Type 0
RefusesForgetting numbers w e = RefusesToForgetAll numbers w e ⊎ (e ≡ Fault) ⊎ (e ≡ Memory)
