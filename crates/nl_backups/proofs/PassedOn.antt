-- What is refused, as a command passes it on.
use Rattle.std.proofs.Common.{◌≡◌, ℕ, List, Option, inl, inr, refl, subst}
use Rattle.nl_types.specs.Plain.Paths.{Path}
use Rattle.nl_manifests.specs.declared.manifest.Line.{Line}
use Rattle.nl_manifests.specs.HostTrees.{HostTree}
use Rattle.nl_shown.specs.declared.reverting.RevertError.{RevertError}
use Rattle.nl_shown.specs.declared.reverting.RevertError.TheVariants as revert
use Rattle.nl_keep.specs.declared.storing.KeepError.{KeepError}
use Rattle.nl_keep.specs.declared.storing.KeepError.TheVariants as keep
use Rattle.nl_keep_pen.specs.Opened.{RefusesToRead}
use Rattle.nl_backups.specs.declared.pinning.PinWish.{PinWish}
use Rattle.nl_backups.specs.declared.refusals.Refusal.{Refusal}
use Rattle.nl_backups.specs.declared.refusals.Refusal.TheVariants as refusal
use Rattle.nl_backups.specs.Hosts.{Holds, Image}
use Rattle.nl_backups.specs.Passed.{brought_back, passed_on}
use Rattle.nl_backups.specs.Readings.{HasLines}
use Rattle.nl_backups.specs.Refusals.{CannotComeBack, RefusesAsking, RefusesAt, RefusesChange, RefusesComingBack, RefusesFolder, RefusesLook, RefusesOpened, RefusesPin, RefusesPinning, RefusesPins, RefusesPruning, RefusesToChange, RefusesToKeep}
use Rattle.nl_backups.proofs.OneWorld.{none_in}

pub keep_refused : (moment : ℕ) (folder : HostTree) (image : Image) (e : KeepError)
    → RefusesToKeep moment folder image e → RefusesFolder moment folder image (passed_on e)
keep_refused moment folder image (keep.Refused error) refuses = inr refuses
keep_refused moment folder image keep.Disordered refuses = refuses

pub look_refused : (n : ℕ) (image : Image) (e : KeepError) → RefusesOpened (λ w. RefusesToRead n w e) image
    → RefusesLook image (passed_on e)
look_refused n image (keep.Refused error) refuses = inr (n, refuses)
look_refused n image keep.Disordered refuses = (n, refuses)

-- ---- of `prune`

pub asked_to_prune : (image : Image) (e : Refusal) → RefusesAsking image e → RefusesPruning image e
asked_to_prune image refusal.Host refuses = tt
asked_to_prune image (refusal.Volume error) refuses = inl refuses
asked_to_prune image (refusal.Folder error) refuses = refuses
asked_to_prune image refusal.Disordered refuses = refuses
asked_to_prune image refusal.NothingThere refuses = refuses
asked_to_prune image refusal.NoFolder refuses = refuses
asked_to_prune image refusal.BadPins refuses = absurd refuses
asked_to_prune image refusal.NotPinned refuses = refuses

pub pins_to_prune : (image : Image) (e : Refusal) → RefusesPins image e → RefusesPruning image e
pins_to_prune image refusal.Host refuses = tt
pins_to_prune image (refusal.Volume error) refuses = inl (inr refuses)
pins_to_prune image (refusal.Folder error) refuses = refuses
pins_to_prune image refusal.Disordered refuses = refuses
pins_to_prune image refusal.NothingThere refuses = refuses
pins_to_prune image refusal.NoFolder refuses = refuses
pins_to_prune image refusal.BadPins refuses = refuses
pins_to_prune image refusal.NotPinned refuses = refuses

-- ---- of `pin`

pub look_to_change : (image : Image) (e : Refusal) → RefusesLook image e → RefusesChange image e
look_to_change image refusal.Host refuses = refuses
look_to_change image (refusal.Volume error) refuses = refuses
look_to_change image (refusal.Folder error) refuses = refuses
look_to_change image refusal.Disordered refuses = refuses
look_to_change image refusal.NothingThere refuses = refuses
look_to_change image refusal.NoFolder refuses = refuses
look_to_change image refusal.BadPins refuses = absurd refuses
look_to_change image refusal.NotPinned refuses = absurd refuses

pub pins_to_change : (image : Image) (e : Refusal) → RefusesPins image e → RefusesChange image e
pins_to_change image refusal.Host refuses = tt
pins_to_change image (refusal.Volume error) refuses = inl (inr refuses)
pins_to_change image (refusal.Folder error) refuses = refuses
pins_to_change image refusal.Disordered refuses = absurd refuses
pins_to_change image refusal.NothingThere refuses = refuses
pins_to_change image refusal.NoFolder refuses = refuses
pins_to_change image refusal.BadPins refuses = refuses
pins_to_change image refusal.NotPinned refuses = absurd refuses

pub off_to_change : (image : Image) (wish : PinWish) (lines : List Line) (e : Refusal) → HasLines lines image
    → RefusesToChange wish lines e → RefusesChange image e
off_to_change image wish lines refusal.Host has refuses = tt
off_to_change image wish lines (refusal.Volume error) has refuses = inl (inr refuses)
off_to_change image wish lines (refusal.Folder error) has refuses = refuses
off_to_change image wish lines refusal.Disordered has refuses = absurd refuses
off_to_change image wish lines refusal.NothingThere has refuses = refuses
off_to_change image wish lines refusal.NoFolder has refuses = refuses
off_to_change image wish lines refusal.BadPins has refuses = absurd refuses
off_to_change image wish lines refusal.NotPinned has refuses =
    (wish.number, none_in lines image wish.number has refuses)

pub change_to_pin : (moment : ℕ) (image : Image) (e : Refusal) → RefusesChange image e
    → RefusesPinning moment image e
change_to_pin moment image refusal.Host refuses = refuses
change_to_pin moment image (refusal.Volume error) refuses = inl refuses
change_to_pin moment image (refusal.Folder error) refuses = refuses
change_to_pin moment image refusal.Disordered refuses = inl refuses
change_to_pin moment image refusal.NothingThere refuses = refuses
change_to_pin moment image refusal.NoFolder refuses = refuses
change_to_pin moment image refusal.BadPins refuses = refuses
change_to_pin moment image refusal.NotPinned refuses = refuses

pub asked_to_pin : (moment : ℕ) (image : Image) (e : Refusal) → RefusesAsking image e
    → RefusesPinning moment image e
asked_to_pin moment image refusal.Host refuses = tt
asked_to_pin moment image (refusal.Volume error) refuses = inl (inl refuses)
asked_to_pin moment image (refusal.Folder error) refuses = refuses
asked_to_pin moment image refusal.Disordered refuses = absurd refuses
asked_to_pin moment image refusal.NothingThere refuses = refuses
asked_to_pin moment image refusal.NoFolder refuses = refuses
asked_to_pin moment image refusal.BadPins refuses = absurd refuses
asked_to_pin moment image refusal.NotPinned refuses = absurd refuses

pub pin_refused : (moment : ℕ) (image : Image) (e : KeepError) → RefusesPin moment image e
    → RefusesPinning moment image (passed_on e)
pin_refused moment image (keep.Refused error) refuses = inr refuses
pin_refused moment image keep.Disordered refuses = inr refuses

-- ---- of `revert`

pub look_to_come_back : (path : Path) (image : Image) (e : Refusal) → RefusesLook image e
    → RefusesComingBack path image e
look_to_come_back path image refusal.Host refuses = refuses
look_to_come_back path image (refusal.Volume error) refuses = refuses
look_to_come_back path image (refusal.Folder error) refuses = refuses
look_to_come_back path image refusal.Disordered refuses = refuses
look_to_come_back path image refusal.NothingThere refuses = absurd refuses
look_to_come_back path image refusal.NoFolder refuses = absurd refuses
look_to_come_back path image refusal.BadPins refuses = refuses
look_to_come_back path image refusal.NotPinned refuses = refuses

pub part_refused : (path : Path) (image : Image) (e : RevertError) → CannotComeBack path image e
    → RefusesComingBack path image (brought_back e)
part_refused path image revert.Memory refuses = inl (inr refl)
part_refused path image revert.NothingThere refuses = refuses
part_refused path image revert.NoFolder refuses = refuses

-- ---- on the host

-- the image that was read gives the reason
pub of_image : (Refuses : Image → Refusal → Type 0) (place : Option Image) (image given : Image) (e : Refusal)
    → Holds place image → given ≡ image → Refuses given e → RefusesAt Refuses place e
of_image Refuses place image given refusal.Host holds same refuses = tt
of_image Refuses place image given (refusal.Volume error) holds same refuses =
    (image, holds, subst (λ (x : Image). Refuses x (refusal.Volume error)) same refuses)
of_image Refuses place image given (refusal.Folder error) holds same refuses =
    (image, holds, subst (λ (x : Image). Refuses x (refusal.Folder error)) same refuses)
of_image Refuses place image given refusal.Disordered holds same refuses =
    (image, holds, subst (λ (x : Image). Refuses x refusal.Disordered) same refuses)
of_image Refuses place image given refusal.NothingThere holds same refuses =
    (image, holds, subst (λ (x : Image). Refuses x refusal.NothingThere) same refuses)
of_image Refuses place image given refusal.NoFolder holds same refuses =
    (image, holds, subst (λ (x : Image). Refuses x refusal.NoFolder) same refuses)
of_image Refuses place image given refusal.BadPins holds same refuses =
    (image, holds, subst (λ (x : Image). Refuses x refusal.BadPins) same refuses)
of_image Refuses place image given refusal.NotPinned holds same refuses =
    (image, holds, subst (λ (x : Image). Refuses x refusal.NotPinned) same refuses)
