-- Mounts in the order of their numbers, and the last number that was given.
use Rattle.std.specs.Prelude.{ℕ, ◌<◌, ◌≤◌, List, [], ◌∷◌}
use Rattle.std.specs.List.{AllByRecursion}
use Rattle.nl_commit.specs.declared.mounts.Mounted.{Mounted}

pub record MountTable : Type 0 where
  pub mounts : List Mounted
  -- the last number that was given, or 0
  pub given : ℕ

-- a mount was made before another one
abbrev pub Precedes : Mounted → Mounted → Type 0
Precedes a b = a.number < b.number

abbrev pub AreRising : List Mounted → Type 0
AreRising [] = Unit {0}
AreRising (m ∷ mounts) = AllByRecursion (Precedes m) mounts × AreRising mounts

abbrev pub IsGiven : ℕ → Mounted → Type 0
IsGiven given m = m.number ≤ given

-- mounts ascend by their numbers, none of which is above the last one that was given
pub record AreGiven (given : ℕ) (mounts : List Mounted) : Type 0 where
  pub rising : AreRising mounts
  pub low : AllByRecursion (IsGiven given) mounts
