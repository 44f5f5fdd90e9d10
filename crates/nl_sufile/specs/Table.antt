-- What a table of segments keeps.
use Rattle.std.specs.Prelude.{◌≡◌, ℕ, ◌<◌, ◌⊎◌, true, List, length, replicate, Option, Some}
use Rattle.nl_types.specs.declared.geometry.Geometry.{Geometry}
use Rattle.nl_types.specs.declared.error.VolError.{VolError}
use Rattle.nl_types.specs.declared.error.VolError.TheVariants.{NoSpace, Memory}
use Rattle.nl_types.specs.declared.segment.SegmentInfo.{SegmentInfo}
use Rattle.nl_types.specs.Plain.Limits.{IsGeometry}
use Rattle.nl_types.specs.Blocks.Segments.{Segments, AreTidy, clean_info, info_of, is_active}

-- all segments, as they are on a new device
abbrev pub all_clean : Geometry → Segments
all_clean g = record { blocks = g.blocks; each = replicate g.segments clean_info }

-- what is true of every table
pub record IsSegTable (s : Segments) : Type 0 where
  pub geometry : IsGeometry (length s.each) s.blocks
  pub tidy : AreTidy s

-- this segment is the active one, if one is
pub record IsActiveIn (each : List SegmentInfo) (active : Option ℕ) : Type 0 where
  pub there : (a : ℕ) → active ≡ Some a → (a < length each) × (is_active (info_of each a).state ≡ true)
  pub only : (i : ℕ) → is_active (info_of each i).state ≡ true → active ≡ Some i

-- why no logs are answered
abbrev pub IsNoSpaceOrMemory : VolError → Type 0
IsNoSpaceOrMemory e = (e ≡ NoSpace) ⊎ (e ≡ Memory)
