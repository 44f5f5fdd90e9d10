-- What a session begins with: the pen of a new volume, or that of an image.
use Rattle.std.specs.Prelude.{◌≡◌, ◌⊎◌, ℕ, List, IsSome, None, Option, option_map}
use Rattle.nl_types.specs.Plain.Limits.{IsGeometry}
use Rattle.nl_types.specs.Plain.Worlds.{formatted}
use Rattle.nl_types.specs.declared.error.VolError.{VolError}
use Rattle.nl_types.specs.declared.error.VolError.TheVariants.{BadGeometry, BadImage, Fault, Memory}
use Rattle.nl_types.specs.declared.geometry.Geometry.{Geometry}
use Rattle.nl_device.specs.Failures.{Failures}
use Rattle.nl_device.specs.Pages.{DevicePages}
use Rattle.nl_image.specs.Conditions.{AreImage, FirstFails}
use Rattle.nl_image.specs.Parts.{with_present_mark}
use Rattle.nl_commit.specs.Layout.{IsFormatted, IsPen, Layout, MeansWorld}
use Rattle.nl_core.specs.Opened.{IsAtRest}
use Rattle.nl_core.specs.PenImages.{IsPenImage}
use Rattle.nl_commands.specs.declared.arguments.Arguments.{Arguments}
use Rattle.nl_script.specs.declared.texts.refusals.StartStep.{StartStep}
use Rattle.nl_script.specs.declared.texts.refusals.StartStep.TheVariants as step
use Rattle.nl_saving.specs.declared.files.FileFault.{FileFault}
use Rattle.nl_saving.specs.declared.files.FileFault.TheVariants as file
use Rattle.nl_saving.specs.declared.saving.SavePlace.{SavePlace}
use Rattle.nlvol.specs.declared.starting.StartFault.{StartFault}
use Rattle.nlvol.specs.declared.starting.StartFault.TheVariants.{InUse, Unread, Refused}

-- the pen has this geometry and checkpoint 1 of the root alone, of moment 0
pub record IsNewPen (geometry : Geometry) (l : Layout) : Type 0 where
  pub pages : DevicePages
  pub failures : Failures
  pub is_formatted : IsFormatted geometry pages failures 0 l
  pub means : MeansWorld l (formatted 0)

-- the bytes are an image, which is the pen's under the present mark; nothing differs from its latest
-- checkpoint, and nothing was mounted
pub record IsOpenedPen (image : List ℕ) (l : Layout) : Type 0 where
  pub meets : AreImage image
  pub image_is : IsPenImage l (with_present_mark image)
  pub pen : IsPen l
  pub rest : IsAtRest l.lists

-- a new volume, or that of an image
pub data Beginning : Type 0 where
  New : Geometry → Beginning
  Kept : (image : List ℕ) → Beginning

abbrev pub IsPenOf : Beginning → Layout → Type 0
IsPenOf (New geometry) l = IsNewPen geometry l
IsPenOf (Kept image) l = IsOpenedPen image l

-- no image is named, and the geometry is the one that was asked for, within the limits
pub record IsGeometryOf (arguments : Arguments) (geometry : Geometry) : Type 0 where
  pub no_image : arguments.open ≡ None
  pub segments : geometry.segments ≡ arguments.segments
  pub blocks : geometry.blocks ≡ arguments.blocks
  pub within : IsGeometry arguments.segments arguments.blocks

-- what the arguments ask to begin with; what the file of an image holds is known to no contract
abbrev pub AsksToBegin : Arguments → Beginning → Type 0
AsksToBegin arguments (New geometry) = IsGeometryOf arguments geometry
AsksToBegin arguments (Kept image) = IsSome arguments.open

-- the pen is that of the volume which was asked for
pub record IsBegunBy (arguments : Arguments) (l : Layout) : Type 0 where
  pub beginning : Beginning
  pub asked : AsksToBegin arguments beginning
  pub pen : IsPenOf beginning l

-- the path of the file that is saved in the end
abbrev pub place_path : Option SavePlace → Option (List ℕ)
place_path = option_map (λ place. place.path.now)

-- ---- refusals

abbrev pub IsMemoryOrFault : VolError → Type 0
IsMemoryOrFault error = (error ≡ Memory) ⊎ (error ≡ Fault)

-- there are bytes that fail this condition first
pub record IsNoImage (error : VolError) : Type 0 where
  pub image : List ℕ
  pub condition : ℕ
  pub is : error ≡ BadImage condition
  pub fails : FirstFails condition image

-- the geometry isn't used, or it is within the limits
abbrev pub IsGeometryJudged : Arguments → Type 0
IsGeometryJudged arguments = IsSome arguments.open ⊎ IsGeometry arguments.segments arguments.blocks

-- why a step is refused behind the configuration and before the first line: the image is judged, or else the
-- geometry, and then the volume is made
abbrev pub IsStartRefused : Arguments → StartStep → VolError → Type 0
IsStartRefused arguments step.Configuration error = ⊥
IsStartRefused arguments step.Image error = IsSome arguments.open × IsNoImage error
IsStartRefused arguments step.Geometry error =
    (arguments.open ≡ None) × (IsGeometry arguments.segments arguments.blocks → ⊥) × (error ≡ BadGeometry)
IsStartRefused arguments step.Start error = IsGeometryJudged arguments × IsMemoryOrFault error

-- or the file of the image can't be read, or another program has the one that is to be saved
abbrev pub IsStartFault : Arguments → StartFault → Type 0
IsStartFault arguments InUse = IsSome arguments.save
IsStartFault arguments Unread = IsSome arguments.open
IsStartFault arguments (Refused step error) = IsStartRefused arguments step error

-- a fault of an image that is asked for: its file isn't read, it is none, or there is no memory for it
abbrev pub IsImageFault : StartFault → Type 0
IsImageFault InUse = ⊥
IsImageFault Unread = Unit {0}
IsImageFault (Refused step.Image error) = IsNoImage error
IsImageFault (Refused step.Start error) = IsMemoryOrFault error
IsImageFault (Refused _ error) = ⊥

-- the step that judges what is refused so
abbrev pub step_of : VolError → StartStep
step_of (BadImage condition) = step.Image
step_of _ = step.Start

abbrev pub image_fault : FileFault → StartFault
image_fault file.Unread = Unread
image_fault (file.Refused error) = Refused (step_of error) error
