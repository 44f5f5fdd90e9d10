-- What has to be true of each checkpoint of an image, and the first of it that isn't.
use Rattle.std.specs.Prelude.{◌≡◌, ℕ, ◌&&◌, nat_le, Bool, true, List, Option, None, Some}
use Rattle.std.specs.List.{All}
use Rattle.nl_types.specs.declared.period.Period.{Period}
use Rattle.nl_types.specs.Blocks.Entries.{is_before_end}
use Rattle.nl_types.specs.Blocks.Roots.{Pages, Root}
use Rattle.nl_vstore.specs.Periods.{Periods}
use Rattle.nl_check.specs.ImageConditions.{number_of}
use Rattle.nl_check.specs.declared.conditions.ImageCondition.TheVariants as condition
use Rattle.nl_check.specs.Shapes.{At, IsShaped, met}
use Rattle.nl_check.specs.Trees.{IsTreeOf}

-- a checkpoint as an entry tells of it: the root of its file of inodes, where the fields spell one, that
-- file's size, and how many inodes are in use
pub record Told : Type 0 where
  pub number : ℕ
  pub root : Option Root
  pub size : ℕ
  pub inodes : ℕ

abbrev pub has : ℕ → Period → Bool
has c period = nat_le period.start c && is_before_end c period.end

-- ---- of one checkpoint

-- its root and its files have the shape that they must have
abbrev pub IsSoundShape : Pages → Told → Type 0
IsSoundShape pages c = (root : Root) × (c.root ≡ Some root) × IsShaped pages root

-- its inodes hold a tree
abbrev pub IsSoundTree : Pages → Told → Type 0
IsSoundTree pages c = (root : Root) × (c.root ≡ Some root) × IsTreeOf pages root c.size c.inodes

-- the numbers that are met are exactly those whose period has the checkpoint
pub record MeetsItsNumbers (pages : Pages) (periods : Periods) (c : ℕ) (root : Root) : Type 0 where
  pub covering : (at : At) (v : ℕ) → met pages root at ≡ Some v
      → (period : Period) × (periods v ≡ Some period) × (has c period ≡ true)
  pub met_all : (v : ℕ) (period : Period) → periods v ≡ Some period → has c period ≡ true
      → (at : At) × (met pages root at ≡ Some v)

abbrev pub HasExactPeriods : Pages → Periods → Told → Type 0
HasExactPeriods pages periods c =
    (root : Root) × (c.root ≡ Some root) × MeetsItsNumbers pages periods c.number root

-- ---- of all, one condition after another

abbrev pub AreShaped : Pages → List Told → Type 0
AreShaped pages kept = All (IsSoundShape pages) kept

abbrev pub AreTrees : Pages → List Told → Type 0
AreTrees pages kept = All (IsSoundTree pages) kept

abbrev pub AreExact : Pages → Periods → List Told → Type 0
AreExact pages periods kept = All (HasExactPeriods pages periods) kept

-- which condition is the first that fails, by its number; none where all are met
pub data FirstFault (pages : Pages) (periods : Periods) (kept : List Told) : Option ℕ → Type 0 where
  shapes_fail : (AreShaped pages kept → ⊥) → FirstFault pages periods kept (Some (number_of condition.Shapes))
  trees_fail : AreShaped pages kept → (AreTrees pages kept → ⊥)
      → FirstFault pages periods kept (Some (number_of condition.Trees))
  periods_fail : AreShaped pages kept → AreTrees pages kept → (AreExact pages periods kept → ⊥)
      → FirstFault pages periods kept (Some (number_of condition.Periods))
  all_met : AreShaped pages kept → AreTrees pages kept → AreExact pages periods kept
      → FirstFault pages periods kept None
