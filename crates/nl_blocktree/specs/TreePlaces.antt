-- Places of a tree, by what they stand under, and where its data ends.
use Rattle.std.specs.Prelude.{◌≡◌, ℕ, suc, ◌-◌, ◌/◌, ◌^◌, ◌<◌, ◌≤◌, None, Some}
use Rattle.nl_types.specs.Blocks.RootChanges.{HasData}
use Rattle.nl_types.specs.Blocks.Roots.{Pages, Root, place_at}

-- The place is one of a level, from one offset up to another, or under one of these.
pub record IsUnder (level first bound : ℕ) (at : ℕ × ℕ) : Type 0 where
  pub low : at.0 ≤ level
  pub from : first ≤ at.1 / 128 ^ (level - at.0)
  pub below : at.1 / 128 ^ (level - at.0) < bound

-- each node at these places stands above data
abbrev pub StandsAboveData : Pages → Root → (ℕ × ℕ → Type 0) → Type 0
StandsAboveData pages root Visited = (level offset v : ℕ) → Visited (suc level, offset)
    → place_at pages root (suc level) offset ≡ Some v
    → (i : ℕ) × (i / 128 ^ suc level ≡ offset) × HasData pages root i

-- so many indices lead up to the last data at these places
pub record IsEnd (pages : Pages) (root : Root) (Visited : ℕ × ℕ → Type 0) (count : ℕ) : Type 0 where
  pub last : ℕ
  pub is : count ≡ suc last
  pub visited : Visited (0, last)
  pub has_data : HasData pages root last
  pub none_past : (i : ℕ) → count ≤ i → Visited (0, i) → place_at pages root 0 i ≡ None
