-- Why a command isn't done. The host alone knows why it doesn't give or take something.
use Rattle.std.specs.Prelude.{◌≡◌, ◌⊎◌, ℕ, List, [], Option, None, Some}
use Rattle.nl_types.specs.declared.error.VolError.{VolError}
use Rattle.nl_types.specs.declared.error.VolError.TheVariants.{Fault, Memory}
use Rattle.nl_types.specs.Plain.Paths.{Path}
use Rattle.nl_types.specs.Plain.Trees.{Tree}
use Rattle.nl_types.specs.Plain.Worlds.{World}
use Rattle.nl_commit.specs.Layout.{Layout, MeansWorld}
use Rattle.nl_core.specs.Opened.{IsOpenRefusal}
use Rattle.nl_image.specs.Parts.{with_present_mark}
use Rattle.nl_manifests.specs.declared.manifest.Line.{Line}
use Rattle.nl_manifests.specs.HostTrees.{HostTree}
use Rattle.nl_manifests.specs.Sealed.{RefusesSealing}
use Rattle.nl_pins.specs.Pins.{text_in}
use Rattle.nl_pins.specs.Trees.{without_pins}
use Rattle.nl_shown.specs.declared.reverting.RevertError.{RevertError}
use Rattle.nl_shown.specs.declared.reverting.RevertError.TheVariants as revert
use Rattle.nl_shown.specs.Kept.{KeepsFolder}
use Rattle.nl_shown.specs.Lost.{coming_back}
use Rattle.nl_shown.specs.Parts.{part_of}
use Rattle.nl_shown.specs.Reverted.{RefusesRevert}
use Rattle.nl_keep.specs.declared.storing.KeepError.{KeepError}
use Rattle.nl_keep.specs.declared.storing.KeepError.TheVariants as keep
use Rattle.nl_keep_pen.specs.Images.{ImageMeans}
use Rattle.nl_keep_pen.specs.Opened.{IsOpenedOf, RefusesForgetting, RefusesPrepared, RefusesToRead}
use Rattle.nl_keep_pen.specs.Pins.{HasPins}
use Rattle.nl_backups.specs.declared.pinning.PinWish.{PinWish}
use Rattle.nl_backups.specs.declared.refusals.Refusal.{Refusal}
use Rattle.nl_backups.specs.declared.refusals.Refusal.TheVariants as refusal
use Rattle.nl_backups.specs.Commands.{ShowsFromImage}
use Rattle.nl_backups.specs.Hosts.{Holds, Image}
use Rattle.nl_backups.specs.Pinning.{IsWanted}
use Rattle.nl_backups.specs.Readings.{HasBadPins, pinned_in}
use Rattle.nl_backups.specs.Reverting.{BothShow, ComesBack}

-- ---- of an image

-- the bytes are no image of a volume, or memory lacks
abbrev pub RefusesOpening : Image → VolError → Type 0
RefusesOpening image e = IsOpenRefusal image e ⊎ (e ≡ Memory)

-- the volume that was opened of the image refuses something in each world that it means
pub record RefusesOpened (Refuses : World → Type 0) (image : Image) : Type 0 where
  pub pen : Layout
  pub opened : IsOpenedOf image pen
  pub refuses : (w : World) → MeansWorld pen w → Refuses w

-- a volume isn't opened, or refuses to store the tree
abbrev pub RefusesImage : (moment : ℕ) → Tree → Image → KeepError → Type 0
RefusesImage moment wanted image e =
    ((error : VolError) × (e ≡ keep.Refused error) × IsOpenRefusal image error)
    ⊎ RefusesOpened (λ w. RefusesPrepared moment wanted w e) image

-- or a tree that keeps the folder, with the pins that there were
pub record RefusesToKeep (moment : ℕ) (folder : HostTree) (image : Image) (e : KeepError) : Type 0 where
  pub pins : Option (List ℕ)
  pub has_pins : HasPins pins image
  pub tree : Tree
  pub keeps : KeepsFolder pins folder tree
  pub refuses : RefusesImage moment tree image e

-- ---- of commands

abbrev pub RefusesInit : Refusal → Type 0
RefusesInit refusal.Host = Unit {0}
RefusesInit (refusal.Volume e) = (e ≡ Fault) ⊎ (e ≡ Memory)
RefusesInit _ = ⊥

-- who asked doesn't go on, or the volume isn't opened
abbrev pub RefusesAsking : Image → Refusal → Type 0
RefusesAsking image refusal.Host = Unit {0}
RefusesAsking image (refusal.Volume e) = RefusesOpening image e
RefusesAsking image _ = ⊥

-- or the folder isn't stored in it
abbrev pub RefusesFolder : (moment : ℕ) → HostTree → Image → Refusal → Type 0
RefusesFolder moment folder image refusal.Host = Unit {0}
RefusesFolder moment folder image (refusal.Volume e) =
    RefusesOpening image e ⊎ RefusesToKeep moment folder image (keep.Refused e)
RefusesFolder moment folder image (refusal.Folder e) = RefusesSealing (without_pins folder) e
RefusesFolder moment folder image refusal.Disordered = RefusesToKeep moment folder image keep.Disordered
RefusesFolder moment folder image _ = ⊥

-- or a checkpoint isn't read
abbrev pub RefusesLook : Image → Refusal → Type 0
RefusesLook image refusal.Host = Unit {0}
RefusesLook image (refusal.Volume e) =
    RefusesOpening image e ⊎ ((n : ℕ) × RefusesOpened (λ w. RefusesToRead n w (keep.Refused e)) image)
RefusesLook image refusal.Disordered = (n : ℕ) × RefusesOpened (λ w. RefusesToRead n w keep.Disordered) image
RefusesLook image _ = ⊥

-- nothing is at and below the path, or memory lacks
abbrev pub LacksPart : Path → HostTree → Refusal → Type 0
LacksPart path shown refusal.NothingThere = part_of path shown ≡ []
LacksPart path shown (refusal.Volume e) = e ≡ Memory
LacksPart path shown _ = ⊥

-- or it shows nothing at and below the path
abbrev pub RefusesPart : Path → Image → Refusal → Type 0
RefusesPart path image refusal.NothingThere =
    (n : ℕ) × (shown : HostTree) × ShowsFromImage n shown image × (part_of path shown ≡ [])
RefusesPart path image e = RefusesLook image e

-- or some checkpoints aren't forgotten
abbrev pub RefusesRemoval : Image → Refusal → Type 0
RefusesRemoval image refusal.Host = Unit {0}
RefusesRemoval image (refusal.Volume e) =
    RefusesOpening image e
    ⊎ ((numbers : List ℕ) × RefusesOpened (λ w. RefusesForgetting numbers w e) image)
RefusesRemoval image _ = ⊥

-- the pins aren't read: the file is none, or memory lacks
abbrev pub RefusesPins : Image → Refusal → Type 0
RefusesPins image refusal.BadPins = HasBadPins image
RefusesPins image (refusal.Volume e) = e ≡ Memory
RefusesPins image _ = ⊥

-- what checkpoint n shows at and below the path has no way into the current tree
pub record CannotComeBack (path : Path) (image : Image) (e : RevertError) : Type 0 where
  pub n : ℕ
  pub earlier : HostTree
  pub later : HostTree
  pub both : BothShow n earlier later image
  pub refuses : RefusesRevert later (coming_back later path earlier) path e

-- a checkpoint or the current tree isn't read, or nothing is there, or no folder is above
abbrev pub RefusesComingBack : Path → Image → Refusal → Type 0
RefusesComingBack path image refusal.NothingThere = CannotComeBack path image revert.NothingThere
RefusesComingBack path image refusal.NoFolder = CannotComeBack path image revert.NoFolder
RefusesComingBack path image e = RefusesLook image e

-- the tree that is wanted isn't stored
pub record RefusesWanted (moment : ℕ) (path : Path) (image : Image) (e : Refusal) : Type 0 where
  pub n : ℕ
  pub wanted : HostTree
  pub comes : ComesBack n path wanted image
  pub refuses : RefusesFolder moment wanted image e

abbrev pub RefusesReverting : (moment : ℕ) → Path → Image → Refusal → Type 0
RefusesReverting moment path image e = RefusesComingBack path image e ⊎ RefusesWanted moment path image e

-- some checkpoints aren't forgotten, or the file of pins is none
abbrev pub RefusesPruning : Image → Refusal → Type 0
RefusesPruning image refusal.BadPins = HasBadPins image
RefusesPruning image e = RefusesRemoval image e

-- there is no pin to be taken off, or memory lacks
abbrev pub RefusesToChange : PinWish → List Line → Refusal → Type 0
RefusesToChange wish lines refusal.NotPinned = text_in lines wish.number ≡ None
RefusesToChange wish lines (refusal.Volume e) = e ≡ Memory
RefusesToChange wish lines _ = ⊥

-- a checkpoint isn't pinned
abbrev pub LacksPin : Image → Type 0
LacksPin image =
    (n : ℕ) × ((w : World) → ImageMeans (with_present_mark image) w → text_in (pinned_in w) n ≡ None)

-- the current tree isn't read, the file of pins is none, or there is no pin to be taken off
abbrev pub RefusesChange : Image → Refusal → Type 0
RefusesChange image refusal.BadPins = HasBadPins image
RefusesChange image refusal.NotPinned = LacksPin image
RefusesChange image e = RefusesLook image e

-- or the tree with the changed pin isn't stored
pub record RefusesPin (moment : ℕ) (image : Image) (e : KeepError) : Type 0 where
  pub wish : PinWish
  pub tree : Tree
  pub wanted : IsWanted moment wish (Some tree) image
  pub refuses : RefusesImage moment tree image e

abbrev pub RefusesPinning : (moment : ℕ) → Image → Refusal → Type 0
RefusesPinning moment image (refusal.Volume e) =
    RefusesChange image (refusal.Volume e) ⊎ RefusesPin moment image (keep.Refused e)
RefusesPinning moment image refusal.Disordered =
    RefusesChange image refusal.Disordered ⊎ RefusesPin moment image keep.Disordered
RefusesPinning moment image e = RefusesChange image e

-- ---- on the host

-- the host does so, or the image that stands there gives a reason
abbrev pub RefusesAt : (Image → Refusal → Type 0) → Option Image → Refusal → Type 0
RefusesAt Refuses place refusal.Host = Unit {0}
RefusesAt Refuses place e = (image : Image) × Holds place image × Refuses image e

-- or that image and the folder that the host gave
abbrev pub RefusesBackup : (moment : ℕ) → Option HostTree → Option Image → Refusal → Type 0
RefusesBackup moment folder place refusal.Host = Unit {0}
RefusesBackup moment folder place e =
    (given : HostTree) × (image : Image) × Holds folder given × Holds place image
    × RefusesFolder moment given image e
