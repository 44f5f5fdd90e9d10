-- What `revert` stores.
use Rattle.std.specs.Prelude.{ℕ}
use Rattle.nl_types.specs.Plain.Paths.{Path}
use Rattle.nl_types.specs.Plain.Worlds.{World}
use Rattle.nl_image.specs.Parts.{with_present_mark}
use Rattle.nl_manifests.specs.HostTrees.{HostTree}
use Rattle.nl_shown.specs.Kept.{ShowsFolder}
use Rattle.nl_shown.specs.Lost.{coming_back}
use Rattle.nl_shown.specs.Reverted.{IsReverted}
use Rattle.nl_keep_pen.specs.Images.{ImageMeans}
use Rattle.nl_backups.specs.declared.reverting.Reverted.{Reverted}
use Rattle.nl_backups.specs.Commands.{ShowsFromImage, StoresFolder}
use Rattle.nl_backups.specs.Hosts.{Image}

-- of whatever world the image was made, its current tree shows this
abbrev pub ShowsNow : HostTree → Image → Type 0
ShowsNow shown image = (w : World) → ImageMeans (with_present_mark image) w → ShowsFolder w.tree shown

-- checkpoint n shows the earlier tree, and the current tree shows the later one
pub record BothShow (n : ℕ) (earlier later : HostTree) (image : Image) : Type 0 where
  pub earlier_shown : ShowsFromImage n earlier image
  pub later_shown : ShowsNow later image

-- In the tree that is wanted, at and below the path, all stands as checkpoint n shows it: what comes back with a
-- manifest that is none is closed. Elsewhere it stands as the current tree shows it.
pub record ComesBack (n : ℕ) (path : Path) (wanted : HostTree) (image : Image) : Type 0 where
  pub earlier : HostTree
  pub later : HostTree
  pub both : BothShow n earlier later image
  pub reverted : IsReverted later (coming_back later path earlier) path wanted

-- it is kept with the pins that there were, and stored
pub record Reverts (moment : ℕ) (path : Path) (told : Reverted) (old new : Image) : Type 0 where
  pub wanted : HostTree
  pub comes : ComesBack told.number path wanted old
  pub stores : StoresFolder moment wanted told.backed old new
