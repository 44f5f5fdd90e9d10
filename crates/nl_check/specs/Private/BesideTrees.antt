-- A tree beside another file: where it has another number, which numbers are met no more, and which anew.
use Rattle.std.specs.Prelude.{◌≡◌, ◌⊎◌, ℕ, ◌^◌, ◌<◌, ◌≤◌, Bool, true, false, List, Option, None, Some}
use Rattle.nl_types.specs.Blocks.RootChanges.{HasData, places}
use Rattle.nl_types.specs.Blocks.Roots.{Empty, Pages, Root, Tree, place_at, slot}
use Rattle.nl_blocktree.specs.TreePlaces.{IsEnd, IsUnder, StandsAboveData}
use Rattle.nl_blocktree.specs.Walked.{HasMet, is_met}
use Rattle.nl_check.specs.Private.Turns.{TellsChanges}

-- ---- places

-- what a tree of a height is walked beside: another one, or a file without blocks
abbrev pub StandsBeside : ℕ → Root → Type 0
StandsBeside height other = ((top : ℕ) × (other ≡ Tree height top)) ⊎ (other ≡ Empty)

-- the number stands at a place of a tree, and the other file has a number there, or none
pub record StandAt (pages : Pages) (height top : ℕ) (other : Root) (level offset number : ℕ)
    (beside : Option ℕ) : Type 0 where
  pub low : level ≤ height
  pub other_is : StandsBeside height other
  pub here : place_at pages (Tree height top) level offset ≡ Some number
  pub there : place_at pages other level offset ≡ beside

-- a place under some of a level, where the other file has another number
pub record IsAnew (pages : Pages) (root other : Root) (level first bound : ℕ) (at : ℕ × ℕ) : Type 0 where
  pub under : IsUnder level first bound at
  pub differs : places pages root at ≡ places pages other at → ⊥

-- and the number that stands there
abbrev pub StandsAnew : Pages → Root → Root → (level first bound : ℕ) → ℕ × ℕ → ℕ → Type 0
StandsAnew pages root other level first bound at v =
    IsAnew pages root other level first bound at × (places pages root at ≡ Some v)

-- ---- numbers that are left

-- a number is met no more, and all others as before
pub record Leaves (number : ℕ) (old new : List Bool) : Type 0 where
  pub gone : is_met new number ≡ false
  pub others : (w : ℕ) → (w ≡ number → ⊥) → is_met new w ≡ is_met old w

-- so are all numbers that stand at some places
pub record HasLeft (Place : Type 0) (Stands : Place → ℕ → Type 0) (old new : List Bool) : Type 0 where
  pub gone : (at : Place) (v : ℕ) → Stands at v → is_met new v ≡ false
  pub only : (v : ℕ) → is_met new v ≡ true → is_met old v ≡ true
  pub others : (v : ℕ) → is_met old v ≡ true → (is_met new v ≡ true) ⊎ ((at : Place) × Stands at v)

-- ---- numbers that are met anew

-- some data stands under places of a level
abbrev pub HasDataUnder : Pages → Root → (level first bound : ℕ) → Type 0
HasDataUnder pages root level first bound =
    (i : ℕ) × IsUnder level first bound (0, i) × HasData pages root i

-- what is anew there is met, and each node of it stands above data
pub record IsMetAnew (pages : Pages) (root other : Root) (level first bound : ℕ) (old new : List Bool)
    : Type 0 where
  pub met : HasMet pages root (IsAnew pages root other level first bound) old new
  pub above_data : StandsAboveData pages root (IsAnew pages root other level first bound)

-- ---- what changed

-- where a list told what changed since some start, another tells it later
abbrev pub TellsOn : List Bool → List ℕ → List Bool → List ℕ → Type 0
TellsOn old before new after =
    (start : List Bool) → TellsChanges start old before → TellsChanges start new after

-- ---- the end of a tree

-- the last slot of a node that names something
pub record IsLastSlot (page : List ℕ) (s v : ℕ) : Type 0 where
  pub low : s < 128
  pub names : slot s page ≡ Some v
  pub none_past : (t : ℕ) → s < t → t < 128 → slot t page ≡ None

-- So many indices lead up to the last data of a tree. It has its topmost node, and no lower tree would do.
pub record IsEndOfTree (pages : Pages) (height top count : ℕ) : Type 0 where
  pub low : 1 ≤ height
  pub top_there : place_at pages (Tree height top) height 0 ≡ Some top
  pub ends : IsEnd pages (Tree height top) (IsUnder height 0 1) count
  pub least : (h : ℕ) → 1 ≤ h → count ≤ 128 ^ h → height ≤ h
