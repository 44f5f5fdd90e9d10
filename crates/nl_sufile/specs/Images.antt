-- The entries of the segments in an image.
use Rattle.std.specs.Prelude.{◌≡◌, ℕ, ◌*◌, ◌<◌, true, List, length, take, drop, flat_map, All}
use Rattle.nl_types.specs.declared.geometry.Geometry.{Geometry}
use Rattle.nl_types.specs.declared.segment.SegmentInfo.{SegmentInfo}
use Rattle.nl_types.specs.Blocks.Segments.{Segments, AreTidy, HaveLogs, IsTidy, has_logs, info_of, is_active}
use Rattle.nl_layout.specs.Segment.{HasSpelling, Spells, segment_bytes}

-- the entries, one after the other
abbrev pub sufile_bytes : Segments → List ℕ
sufile_bytes s = flat_map segment_bytes s.each

-- The bytes are the entries of these segments, as many as the volume is divided into. The segments are tidy,
-- and all that are neither clean nor in error have logs.
pub record IsSufileOf (g : Geometry) (bytes : List ℕ) (s : Segments) : Type 0 where
  pub spelled : bytes ≡ sufile_bytes s
  pub fit : All HasSpelling s.each
  pub count : length s.each ≡ g.segments
  pub blocks : s.blocks ≡ g.blocks
  pub tidy : AreTidy s
  pub have_logs : HaveLogs s

-- ---- of one segment, and of all but for which are active

-- what a segment of so many blocks may be like
pub record IsSoundSegment (blocks : ℕ) (info : SegmentInfo) : Type 0 where
  pub tidy : IsTidy blocks info
  pub logs : has_logs info.state ≡ true → 0 < info.used

-- the entry of segment i is that of such a segment
pub record IsEntryAt (blocks : ℕ) (bytes : List ℕ) (i : ℕ) (info : SegmentInfo) : Type 0 where
  pub spells : Spells (take 16 (drop (16 * i) bytes)) info
  pub sound : IsSoundSegment blocks info

-- the bytes are the entries of such segments
pub record AreEntriesOf (g : Geometry) (bytes : List ℕ) (each : List SegmentInfo) : Type 0 where
  pub spelled : bytes ≡ flat_map segment_bytes each
  pub fit : All HasSpelling each
  pub count : length each ≡ g.segments
  pub sound : All (IsSoundSegment g.blocks) each

-- one of them at most is active
abbrev pub HaveOneActive : List SegmentInfo → Type 0
HaveOneActive each =
    (i j : ℕ) → is_active (info_of each i).state ≡ true → is_active (info_of each j).state ≡ true → i ≡ j
