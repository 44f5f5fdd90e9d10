-- A handle is given a volume: a new one, or that of an image.
use Rattle.std.specs.Prelude.{◌≡◌, ◌⊎◌, ℕ, false, List, [], Option, Some}
use Rattle.nl_manifests.specs.declared.manifest.Manifest.{Manifest}
use Rattle.nl_types.specs.declared.error.VolError.{VolError}
use Rattle.nl_types.specs.declared.error.VolError.TheVariants.{BadGeometry, Fault, Memory}
use Rattle.nl_types.specs.declared.geometry.Geometry.{Geometry}
use Rattle.nl_types.specs.Plain.Limits.{IsGeometry}
use Rattle.nl_types.specs.Plain.Worlds.{formatted}
use Rattle.nl_device.specs.Failures.{Failures}
use Rattle.nl_device.specs.Pages.{DevicePages}
use Rattle.nl_image.specs.Conditions.{AreImage}
use Rattle.nl_image.specs.Parts.{with_present_mark}
use Rattle.nl_commit.specs.Layout.{IsFormatted, IsPen, Layout, MeansWorld}
use Rattle.nl_core.specs.Opened.{IsAtRest, IsOpenRefusal}
use Rattle.nl_core.specs.PenImages.{IsPenImage}
use Rattle.nl_c.specs.Statuses.{done, error_number, memory}
use Rattle.nl_c.specs.declared.held.Held.{Held}

-- it has this geometry, and checkpoint 1 of the root alone
pub record IsNewPen (geometry : Geometry) (moment : ℕ) (l : Layout) : Type 0 where
  pub pages : DevicePages
  pub failures : Failures
  pub is_formatted : IsFormatted geometry pages failures moment l
  pub means : MeansWorld l (formatted moment)
  pub pen : IsPen l

abbrev pub IsMemoryOrFault : VolError → Type 0
IsMemoryOrFault e = (e ≡ Memory) ⊎ (e ≡ Fault)

-- The bytes are an image, which is the volume's under the present mark. Nothing differs from the latest
-- checkpoint, and nothing was mounted.
pub record IsOpenedPen (image : List ℕ) (l : Layout) : Type 0 where
  pub meets : AreImage image
  pub image_is : IsPenImage l (with_present_mark image)
  pub pen : IsPen l
  pub rest : IsAtRest l.lists

-- ---- what the handle leads to

abbrev pub no_manifest : Manifest
no_manifest =
    record {
      own = record { mode = 0; owner = 0; group = 0; time = record { is_negative = false; seconds = 0; nanoseconds = 0 } };
      lines = [];
    }

-- a volume, with nothing to copy out
abbrev pub just : Layout → Held
just l = record { pen = l; image = []; names = []; manifest = no_manifest }

-- the handle leads to the volume; or there was no memory, and it stays
abbrev pub HoldsPen : Option Held → Layout → ℕ → Option Held → Type 0
HoldsPen was l status after =
    ((status ≡ done) × (after ≡ Some (just l))) ⊎ ((status ≡ memory) × (after ≡ was))

-- it leads to a volume of which this is true
abbrev pub LeadsTo : (Layout → Type 0) → ℕ → Option Held → Type 0
LeadsTo IsSuch status after = (l : Layout) × IsSuch l × (status ≡ done) × (after ≡ Some (just l))

-- it is refused by such a refusal, or for want of memory, and stays
abbrev pub StaysBy : (VolError → Type 0) → Option Held → ℕ → Option Held → Type 0
StaysBy IsRefusal was status after =
    (e : VolError) × (IsRefusal e ⊎ (e ≡ Memory)) × (status ≡ error_number e) × (after ≡ was)

-- a geometry has these numbers
abbrev pub IsDividedIn : Geometry → (segments blocks : ℕ) → Type 0
IsDividedIn g segments blocks = (g.segments ≡ segments) × (g.blocks ≡ blocks)

-- the handle leads to a new volume; or no volume has this geometry, or memory lacks, and it stays
abbrev pub BecomesNew : (segments blocks moment : ℕ) → Option Held → ℕ → Option Held → Type 0
BecomesNew segments blocks moment was status after =
    ((g : Geometry) × IsDividedIn g segments blocks
    × (LeadsTo (IsNewPen g moment) status after ⊎ StaysBy IsMemoryOrFault was status after))
    ⊎ ((IsGeometry segments blocks → ⊥) × (status ≡ error_number BadGeometry) × (after ≡ was))

abbrev pub BecomesOpened : (image : List ℕ) → Option Held → ℕ → Option Held → Type 0
BecomesOpened image was status after =
    LeadsTo (IsOpenedPen image) status after ⊎ StaysBy (IsOpenRefusal image) was status after
