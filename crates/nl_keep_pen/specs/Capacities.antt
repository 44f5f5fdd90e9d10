-- How many blocks the next checkpoint of a volume can write.
use Rattle.std.specs.Prelude.{◌≡◌, ℕ, ◌+◌, ◌/◌, ◌≤◌, true, List, length, max, min}
use Rattle.nl_types.specs.Blocks.Placing.{LacksSpace, LogsFit}
use Rattle.nl_types.specs.Blocks.Segments.{Segments, grown_to}
use Rattle.nl_types.specs.declared.segment.Log.{Log}
use Rattle.nl_types.specs.Plain.Limits.{IsGeometry, segment_limit, volume_block_limit}
use Rattle.nl_keep_pen.specs.declared.capacity.Capacity.{Capacity}

-- beside the segments of the reserve there are logs for so many blocks, and for none more
pub record IsMost (s : Segments) (blocks : ℕ) : Type 0 where
  pub logs : List Log
  pub fit : LogsFit s true blocks logs
  pub most : LacksSpace s true (blocks + 1)

-- how many segments of so many blocks a volume can have
abbrev pub most_segments : ℕ → ℕ
most_segments blocks = min (volume_block_limit / max blocks 1) segment_limit

-- a volume of these segments can be given so many
pub record CanGrow (s : Segments) (segments : ℕ) : Type 0 where
  pub more : length s.each ≤ segments
  pub limits : IsGeometry segments s.blocks

-- the most blocks where the volume is given so many segments, if it can be, and else as it is
pub record IsMostIn (s : Segments) (segments blocks : ℕ) : Type 0 where
  pub grown : CanGrow s segments → IsMost (grown_to segments s) blocks
  pub present : (CanGrow s segments → ⊥) → IsMost s blocks

pub record IsCapacityOf (s : Segments) (c : Capacity) : Type 0 where
  pub present : IsMost s c.present
  pub segments : c.segments ≡ most_segments s.blocks
  pub grown : IsMostIn s c.segments c.grown
