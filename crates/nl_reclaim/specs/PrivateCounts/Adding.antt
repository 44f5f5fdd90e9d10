-- Counts while numbers get their blocks, one after another.
use Rattle.std.specs.Prelude.{◌≡◌, ℕ, ◌<◌, true, if◌then◌else◌, List, length, None, Some}
use Rattle.nl_types.specs.Plain.NumberLists.{NoneTwice, is_one_of}
use Rattle.nl_types.specs.Blocks.PartialMaps.{Partial}
use Rattle.nl_vstore.specs.Stores.{Store, address_in, is_inside}

-- the new blocks of the numbers that are done, and the old ones of all others
abbrev pub mixed : (done : List ℕ) → (new old : Partial ℕ) → Partial ℕ
mixed done new old v = if is_one_of done v then new v else old v

-- the numbers, each once, have blocks in the store
pub record HaveBlocks (s : Store) (numbers : List ℕ) : Type 0 where
  pub once : NoneTwice numbers
  pub now : (v : ℕ) → is_one_of numbers v ≡ true → (b : ℕ) × (address_in s v ≡ Some b)

-- and had none
pub record GetBlocks (s : Store) (numbers : List ℕ) (old : Partial ℕ) : Type 0 where
  pub have : HaveBlocks s numbers
  pub before : (v : ℕ) → is_one_of numbers v ≡ true → old v ≡ None

-- and had them in a segment
pub record LeaveSegment (s : Store) (segment : ℕ) (numbers : List ℕ) (old : Partial ℕ) : Type 0 where
  pub have : HaveBlocks s numbers
  pub there : segment < length s.segments.each
  pub before : (v : ℕ) → is_one_of numbers v ≡ true → is_inside s.segments segment (old v) ≡ true
