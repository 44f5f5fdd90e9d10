-- The bytes of an entry of the segment usage file: 16 of them, numbers in little endian.
use Rattle.std.specs.Prelude.{◌≡◌, ℕ, zero, suc, ◌<◌, ◌^◌, List, ◌++◌, drop, Option, None, Some}
use Rattle.std.specs.Option.{option_map}
use Rattle.byteorder.specs.Endian.{little_bytes, little_number}
use Rattle.nl_types.specs.declared.segment.SegmentInfo.{SegmentInfo}
use Rattle.nl_types.specs.declared.segment.SegmentState.{SegmentState}
use Rattle.nl_types.specs.declared.segment.SegmentState.TheVariants.{Clean, Dirty, Active, Error}

-- 1 for active, 2 for dirty, 4 for in error: all but a clean segment are dirty
abbrev pub segment_flags : SegmentState → ℕ
segment_flags Clean = 0
segment_flags Dirty = 2
segment_flags Active = 3
segment_flags Error = 6

-- the stamp, the used blocks and the flags
abbrev pub segment_bytes : SegmentInfo → List ℕ
segment_bytes info =
    little_bytes 8 info.stamp
    ++ little_bytes 4 info.used
    ++ little_bytes 4 (segment_flags info.state)

-- what has a spelling
pub record HasSpelling (info : SegmentInfo) : Type 0 where
  pub stamp : info.stamp < 2 ^ 64
  pub used : info.used < 2 ^ 32

-- the bytes are the spelling of this entry
pub record Spells (bytes : List ℕ) (info : SegmentInfo) : Type 0 where
  pub fits : HasSpelling info
  pub spelling : bytes ≡ segment_bytes info

-- ---- reading: what stands in the fields of an entry, whether the bytes spell one or not

abbrev pub segment_state_at : ℕ → Option SegmentState
segment_state_at zero = Some Clean
segment_state_at (suc zero) = None
segment_state_at (suc (suc zero)) = Some Dirty
segment_state_at (suc (suc (suc zero))) = Some Active
segment_state_at (suc (suc (suc (suc zero)))) = None
segment_state_at (suc (suc (suc (suc (suc zero))))) = None
segment_state_at (suc (suc (suc (suc (suc (suc zero)))))) = Some Error
segment_state_at (suc (suc (suc (suc (suc (suc (suc flags))))))) = None

abbrev pub info_with : List ℕ → SegmentState → SegmentInfo
info_with bytes state =
    record { state = state; stamp = little_number 8 bytes; used = little_number 4 (drop 8 bytes) }

abbrev pub segment_at : List ℕ → Option SegmentInfo
segment_at bytes = option_map (info_with bytes) (segment_state_at (little_number 4 (drop 12 bytes)))
