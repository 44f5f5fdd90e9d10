-- Where the next log begins, and which segments are free then.
use Rattle.std.specs.Prelude.{◌≡◌, ℕ, Bool, true, false, List, [], ◌∷◌, Option, Some}
use Rattle.nl_types.specs.declared.segment.Position.{Position}
use Rattle.nl_types.specs.Blocks.Placing.{has_room}

-- nowhere: nothing has room, and nothing is free
pub record IsNowhere (blocks : ℕ) (left : Option Position) (free : List ℕ) : Type 0 where
  pub room : has_room blocks left ≡ false
  pub none_free : free ≡ []

-- at the place left
pub record IsLeft (blocks : ℕ) (left : Option Position) (free : List ℕ) (place : Position)
    (rest : List ℕ) : Type 0 where
  pub room : has_room blocks left ≡ true
  pub there : left ≡ Some place
  pub same : rest ≡ free

-- at block 0 of the first free segment
pub record IsTaken (blocks : ℕ) (left : Option Position) (free : List ℕ) (place : Position)
    (rest : List ℕ) : Type 0 where
  pub room : has_room blocks left ≡ false
  pub segment : free ≡ place.segment ∷ rest
  pub block : place.block ≡ 0

abbrev pub IsNextPlace : Bool → ℕ → Option Position → List ℕ → Position → List ℕ → Type 0
IsNextPlace true blocks left free place rest = IsLeft blocks left free place rest
IsNextPlace false blocks left free place rest = IsTaken blocks left free place rest
