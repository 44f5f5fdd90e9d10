-- What commands do, from the host before to the host after.
use Rattle.std.specs.Prelude.{◌≡◌, ℕ, ◌<◌, List, length, Option}
use Rattle.nl_types.specs.Plain.Paths.{Path}
use Rattle.nl_types.specs.Plain.Trees.{Tree}
use Rattle.nl_types.specs.Plain.Worlds.{World, formatted}
use Rattle.nl_image.specs.Parts.{with_present_mark}
use Rattle.nl_manifests.specs.HostTrees.{HostTree}
use Rattle.nl_shown.specs.Kept.{KeepsFolder, ShowsFolder}
use Rattle.nl_shown.specs.Parts.{part_of}
use Rattle.nl_keep_pen.specs.Images.{ImageMeans, ReadsFromImage}
use Rattle.nl_keep_pen.specs.Pins.{HasPins}
use Rattle.nl_backups.specs.declared.storing.BackedUp.{BackedUp}
use Rattle.nl_backups.specs.Hosts.{Becomes, Holds, Image}
use Rattle.nl_backups.specs.Storing.{IsStored}

-- ---- backup

-- the tree that is told keeps the folder, with the pins that there were, and is stored
pub record StoresFolder (moment : ℕ) (folder : HostTree) (told : BackedUp) (old new : Image) : Type 0 where
  pub pins : Option (List ℕ)
  pub has_pins : HasPins pins old
  pub keeps : KeepsFolder pins folder told.tree
  pub stored : IsStored moment told.tree told.stored old new

-- so is one that keeps the folder that the host gave
pub record BacksUp (moment : ℕ) (folder : Option HostTree) (told : BackedUp) (old new : Option Image)
    : Type 0 where
  pub given : HostTree
  pub is_given : Holds folder given
  pub stores : Becomes (StoresFolder moment given told) old new

-- as snapshot n
pub record BacksUpAs (moment n : ℕ) (folder : Option HostTree) (old new : Option Image) : Type 0 where
  pub told : BackedUp
  pub number : told.stored.number ≡ n
  pub backs_up : BacksUp moment folder told old new

-- ---- restore

-- this is what checkpoint n of the image shows
pub record ShowsFromImage (n : ℕ) (shown : HostTree) (image : Image) : Type 0 where
  pub tree : Tree
  pub reads : ReadsFromImage n tree image
  pub shows : (w : World) → ImageMeans (with_present_mark image) w → ShowsFolder tree shown

-- and what it shows at and below the path, which is something, is laid out
pub record Restores (n : ℕ) (path : Path) (place : Option Image) (laid : Option HostTree) : Type 0 where
  pub image : Image
  pub is_image : Holds place image
  pub shown : HostTree
  pub shows : ShowsFromImage n shown image
  pub some : 0 < length (part_of path shown)
  pub is_laid : Holds laid (part_of path shown)

-- ---- init

-- the image of a new volume stands there
pub record Makes (moment : ℕ) (new : Option Image) : Type 0 where
  pub image : Image
  pub means : ImageMeans image (formatted moment)
  pub is_image : Holds new image
