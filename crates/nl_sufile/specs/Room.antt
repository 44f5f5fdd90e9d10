-- How many payload blocks logs have room for.
use Rattle.std.specs.Prelude.{ℕ, ◌<◌, ◌≤◌, Bool, List, Option}
use Rattle.nl_types.specs.declared.segment.Log.{Log}
use Rattle.nl_types.specs.declared.segment.Position.{Position}
use Rattle.nl_types.specs.Blocks.Segments.{Segments, active_place, free_segments}
use Rattle.nl_types.specs.Blocks.Placing.{GoOn}

-- from the place left on, and in the free segments, logs take so many payload blocks and any fewer, and no
-- more
pub record HasRoomOn (blocks : ℕ) (left : Option Position) (free : List ℕ) (most : ℕ) : Type 0 where
  pub fits : (n : ℕ) → n ≤ most → (logs : List Log) × GoOn blocks left free n logs
  pub lacks : (n : ℕ) → most < n → (logs : List Log) → GoOn blocks left free n logs → ⊥

-- a list of logs fits so many payload blocks and any fewer, and none fits more; with reserve two clean
-- segments stay
abbrev pub HasRoomFor : Segments → Bool → ℕ → Type 0
HasRoomFor s reserve most = HasRoomOn s.blocks (active_place s) (free_segments reserve s) most
