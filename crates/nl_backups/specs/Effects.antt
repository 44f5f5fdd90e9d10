-- What any command does to an image, and what comes back after many.
use Rattle.std.specs.Prelude.{◌≡◌, ℕ, false, List, [], ◌∷◌}
use Rattle.nl_types.specs.Plain.NumberLists.{is_one_of}
use Rattle.nl_types.specs.Plain.Trees.{Tree}
use Rattle.nl_types.specs.Plain.Worlds.{World}
use Rattle.nl_image.specs.Parts.{with_present_mark}
use Rattle.nl_manifests.specs.HostTrees.{HostTree}
use Rattle.nl_pins.specs.Trees.{without_pins}
use Rattle.nl_keep_pen.specs.Images.{ForgetsInImage, ImageMeans, StoresInImage}
use Rattle.nl_keep_pen.specs.Runs.{IsStillKept}
use Rattle.nl_backups.specs.declared.storing.BackedUp.{BackedUp}
use Rattle.nl_backups.specs.Commands.{ShowsFromImage, StoresFolder}
use Rattle.nl_backups.specs.Hosts.{Image}

-- A command stores a tree as the next snapshot: backup, revert, untar, pin. Or it removes checkpoints:
-- forget, prune. Or it leaves the image as it was: all others, and each one that is refused.
pub data Effect : Type 0 where
  Stores : (moment k : ℕ) → Tree → Effect
  Removes : (moment : ℕ) → (numbers : List ℕ) → Effect
  Leaves : Effect

abbrev pub Has : Effect → (old new : Image) → Type 0
Has (Stores moment k tree) old new = StoresInImage moment k tree old new
Has (Removes moment numbers) old new = ForgetsInImage moment numbers old new
Has Leaves old new = new ≡ old

-- effects one after another
abbrev pub HaveAll : List Effect → (old new : Image) → Type 0
HaveAll [] old new = new ≡ old
HaveAll (effect ∷ effects) old new = (mid : Image) × Has effect old mid × HaveAll effects mid new

-- checkpoint n isn't removed
abbrev pub Spares : ℕ → Effect → Type 0
Spares n (Stores moment k tree) = Unit {0}
Spares n (Removes moment numbers) = is_one_of numbers n ≡ false
Spares n Leaves = Unit {0}

-- by none of them
abbrev pub AllSpare : ℕ → List Effect → Type 0
AllSpare n [] = Unit {0}
AllSpare n (effect ∷ effects) = Spares n effect × AllSpare n effects

-- ---- laws

-- checkpoint n of the world, if it is no plain minor one, is kept in the one that the image means
pub record KeepsOn (n : ℕ) (w : World) (new : Image) : Type 0 where
  pub after : World
  pub keeps : (tree : Tree) → IsStillKept n tree w → IsStillKept n tree after
  pub means : ImageMeans new after

abbrev pub EffectsKeepCheckpoints : Type 0
EffectsKeepCheckpoints =
    (effect : Effect) (n : ℕ) (old new : Image) (w : World)
    → ImageMeans old w → Has effect old new → Spares n effect → KeepsOn n w new

-- A folder was backed up into an image of a volume. Then came whatever commands that don't remove the
-- snapshot which that made. What it shows then is that folder.
abbrev pub FoldersComeBack : Type 0
FoldersComeBack =
    (moment : ℕ) (folder shown : HostTree) (told : BackedUp) (old first last : Image) (effects : List Effect)
    (w : World)
    → ImageMeans (with_present_mark old) w → StoresFolder moment folder told old first
    → HaveAll effects first last → AllSpare told.stored.number effects
    → ShowsFromImage told.stored.number shown last → shown ≡ without_pins folder
