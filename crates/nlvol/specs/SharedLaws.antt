-- Shared volumes beside worlds of plain files with whole copies.
use Rattle.std.specs.Prelude.{◌≡◌, ◌≢◌, ℕ, List, [], ◌∷◌, ◌++◌, map, Some}
use Rattle.std.specs.List.{AllByRecursion}
use Rattle.std.specs.Ordering.{nat_cmp}
use Rattle.std.specs.FinMap.{find}
use Rattle.nl_types.specs.declared.geometry.Geometry.{Geometry}
use Rattle.nl_types.specs.Plain.Worlds.{World, formatted}
use Rattle.nl_commit.specs.Commits.{shown_after}
use Rattle.nl_commit.specs.Layout.{MeansWorld}
use Rattle.nl_publish.specs.Locks.{listed}
use Rattle.nl_publish.specs.Mounts.{Claim}
use Rattle.nl_publish.specs.Told.{ShowsCopy}
use Rattle.nlvol.specs.Beginnings.{Kept, New}
use Rattle.nlvol.specs.Sessions.{IsVolumeOf}
use Rattle.nlvol.specs.SharedVolumes.{Sharing}

-- ---- a volume beside a world

-- the mount is there in the world, and was told of the copy that it shows
pub record IsMountIn (w : World) (m : Claim) : Type 0 where
  pub mounted : find nat_cmp m.number w.mounts ≡ Some m.checkpoint
  pub told : ShowsCopy (shown_after m.told.commits) m.checkpoint w

abbrev pub number_of : Claim → ℕ
number_of m = m.number

-- no number comes twice
abbrev pub DifferAll : List ℕ → Type 0
DifferAll [] = Unit {0}
DifferAll (n ∷ numbers) = AllByRecursion (λ m. m ≢ n) numbers × DifferAll numbers

-- The pen means the world, and each mount that is held is there. No two have one number, and none has the
-- lost mount's.
pub record IsBeside (w : World) (s : Sharing) : Type 0 where
  pub means : MeansWorld s.held.layout w
  pub mounts : AllByRecursion (IsMountIn w) s.mounts
  pub numbers : DifferAll (listed s.held.lost ++ map number_of s.mounts)

-- ---- volumes as sessions begin with them

-- a new volume is beside a new world
abbrev pub NewVolumesAreBeside : Type 0
NewVolumesAreBeside =
    (geometry : Geometry) (s : Sharing) → IsVolumeOf (New geometry) s → IsBeside (formatted 0) s

-- and that of an image beside the world that its pen means
abbrev pub KeptVolumesAreBeside : Type 0
KeptVolumesAreBeside =
    (image : List ℕ) (w : World) (s : Sharing) → IsVolumeOf (Kept image) s → MeansWorld s.held.layout w
    → IsBeside w s
