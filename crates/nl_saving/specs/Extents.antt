-- Which bytes of a file are written where zeros are left out: extents. The others are in holes.
use Rattle.std.specs.Prelude.{◌≡◌, ◌⊎◌, ◌*◌, ◌-◌, ◌<◌, ◌≤◌, ℕ, List, drop, length, replicate, slice_range, take}
use Rattle.nl_saving.specs.declared.extents.Extent.{Extent}

-- the bytes from one place up to another are zeros
abbrev pub AreZeros : List ℕ → (start end : ℕ) → Type 0
AreZeros bytes start end = slice_range bytes start end ≡ replicate (end - start) 0

-- 4,096 zeros stand from a place on
abbrev pub HasHole : List ℕ → (start : ℕ) → Type 0
HasHole bytes start = take 4096 (drop start bytes) ≡ replicate 4096 0

-- no unit between two places is a hole
abbrev pub HasNoHole : List ℕ → (start end : ℕ) → Type 0
HasNoHole bytes start end =
    (unit : ℕ) → start ≤ 4096 * unit → 4096 * unit < end → HasHole bytes (4096 * unit) → ⊥

-- a place where a unit of 4,096 bytes begins, or the end
pub record IsBound (len place : ℕ) : Type 0 where
  pub within : place ≤ len
  pub bound : ((unit : ℕ) × (place ≡ 4096 * unit)) ⊎ (place ≡ len)

-- Only zeros stand between a place and the extent. It is whole units, none of them a hole, up to the next
-- hole or the end.
pub record IsNextExtent (bytes : List ℕ) (from : ℕ) (extent : Extent) : Type 0 where
  pub ascends : from ≤ extent.start
  pub zeros : AreZeros bytes from extent.start
  pub begins : IsBound (length bytes) extent.start
  pub some : extent.start < extent.end
  pub full : HasNoHole bytes extent.start extent.end
  pub ends : IsBound (length bytes) extent.end
  pub behind : (extent.end ≡ length bytes) ⊎ HasHole bytes extent.end
