-- How far a walk has come.
use Rattle.std.specs.Prelude.{◌≡◌, ◌⊎◌, ℕ, suc, ◌+◌, ◌<◌, ◌≤◌, Bool, cond, List, [], ◌∷◌, IsSome, Option, None, Some}
use Rattle.nl_types.specs.Blocks.RootChanges.{places}
use Rattle.nl_types.specs.Blocks.Roots.{Pages, Root, place_at, slot}
use Rattle.nl_blocktree.specs.TreePlaces.{IsEnd, IsUnder, StandsAboveData}
use Rattle.nl_blocktree.specs.Walked.{CanNotMeet, HasMet, IsElsewhere, IsWalkRefusal, Meets}
use Rattle.nl_blocktree.specs.declared.meeting.WalkError.{WalkError}
use Rattle.nl_blocktree.specs.declared.meeting.WalkError.TheVariants.{NoNode, EmptyLastNode, EmptyNode, TooHigh, NotInUse, MetTwice}

-- how many numbers were not met
abbrev pub unmet : List Bool → ℕ
unmet [] = 0
unmet (b ∷ met) = cond b 0 1 + unmet met

-- ---- a chain

-- the place is one of the first nodes, or of the first data
abbrev pub IsVisited : (nodes data_count : ℕ) → ℕ × ℕ → Type 0
IsVisited nodes data_count at = ((at.0 ≡ 1) × (at.1 < nodes)) ⊎ ((at.0 ≡ 0) × (at.1 < data_count))

-- the node at a position, and its page
pub record IsNode (pages : Pages) (root : Root) (position : ℕ) (page : List ℕ) : Type 0 where
  pub number : ℕ
  pub at : place_at pages root 1 position ≡ Some number
  pub stored : pages number ≡ Some page

-- a slot of a page names nothing, or its number is met
abbrev pub MeetsSlot : Pages → ℕ → List ℕ → List Bool → List Bool → Type 0
MeetsSlot pages s page old new =
    ((slot s page ≡ None) × (new ≡ old)) ⊎ ((v : ℕ) × (slot s page ≡ Some v) × Meets pages v old new)

abbrev pub CanNotMeetSlot : Pages → ℕ → List ℕ → List Bool → WalkError → Type 0
CanNotMeetSlot pages s page old e = (v : ℕ) × (slot s page ≡ Some v) × CanNotMeet pages v old e

-- so far a slot of data names something, or none does
pub record IsLastNamed (page : List ℕ) (last : ℕ) : Type 0 where
  pub within : last ≤ 127
  pub none_past : (s : ℕ) → last ≤ s → s < 127 → slot s page ≡ None
  pub named : (last ≡ 0) ⊎ ((s : ℕ) × (last ≡ suc s) × IsSome (slot s page))

-- ---- a tree

-- so many indices lead up to the last data at these places, or no data stands there
abbrev pub EndsAt : Pages → Root → (ℕ × ℕ → Type 0) → Option ℕ → Type 0
EndsAt pages root Visited None = (i : ℕ) → Visited (0, i) → place_at pages root 0 i ≡ None
EndsAt pages root Visited (Some count) = IsEnd pages root Visited count

-- The blocks at places of a level, and all under them, are met. Each node of these stands above data, and it
-- is told where their data ends.
pub record IsMetUnder (pages : Pages) (root : Root) (level first bound : ℕ) (old new : List Bool)
    (count : Option ℕ) : Type 0 where
  pub met : HasMet pages root (IsUnder level first bound) old new
  pub above_data : StandsAboveData pages root (IsUnder level first bound)
  pub ends : EndsAt pages root (IsUnder level first bound) count

-- what is wrong with the blocks at some places: the number that was met stands at one of these
abbrev pub IsRefusalAt : Pages → Root → (ℕ × ℕ → Type 0) → List Bool → WalkError → Type 0
IsRefusalAt pages root Visited old NoNode = IsWalkRefusal pages root old NoNode
IsRefusalAt pages root Visited old EmptyLastNode = IsWalkRefusal pages root old EmptyLastNode
IsRefusalAt pages root Visited old EmptyNode = IsWalkRefusal pages root old EmptyNode
IsRefusalAt pages root Visited old TooHigh = IsWalkRefusal pages root old TooHigh
IsRefusalAt pages root Visited old (NotInUse v) = IsWalkRefusal pages root old (NotInUse v)
IsRefusalAt pages root Visited old (MetTwice v) =
    (at : ℕ × ℕ) × Visited at × (places pages root at ≡ Some v) × IsElsewhere pages root old at v
