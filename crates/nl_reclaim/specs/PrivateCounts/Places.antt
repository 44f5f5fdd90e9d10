-- Counts by segment over a store.
use Rattle.std.specs.Prelude.{◌≡◌, ℕ, ◌+◌, ◌^◌, ◌<◌, List, length, slice_index_or, Option, None, Some}
use Rattle.nl_types.specs.Blocks.PartialMaps.{Partial}
use Rattle.nl_sufile.specs.BySegment.{AreCounts, one_more}
use Rattle.nl_vstore.specs.Counts.{IsSegmentOf}
use Rattle.nl_vstore.specs.Stores.{Store, capacity}

-- there is a count for each segment, of the numbers that have their block in it
pub record AreCountsIn (s : Store) (at : Partial ℕ) (counts : List ℕ) : Type 0 where
  pub size : length counts ≡ length s.segments.each
  pub are : AreCounts s.segments.blocks (capacity s) at counts

-- each count can be one more
pub record HaveRoom (s : Store) (counts : List ℕ) : Type 0 where
  pub size : length counts ≡ length s.segments.each
  pub each : (segment : ℕ) → segment < length counts → slice_index_or counts segment 0 + 1 < 2 ^ 32

-- the counts with one more of a segment, if there is one
abbrev pub with_one : Option ℕ → List ℕ → List ℕ
with_one None counts = counts
with_one (Some segment) counts = one_more segment counts

-- one more is counted where the page of a number stands
pub record HasOneMore (s : Store) (v : ℕ) (old new : List ℕ) : Type 0 where
  pub found : Option ℕ
  pub is : IsSegmentOf s v found
  pub counted : new ≡ with_one found old
