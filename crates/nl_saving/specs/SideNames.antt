-- Names of new files beside the ones that they are to replace.
use Rattle.std.specs.Prelude.{◌≡◌, ◌<◌, ◌≤◌, ◌++◌, ℕ, Bool, true, false, List, codes, take, IsCharBoundary}
use Rattle.std.specs.Fmt.{decimal}

-- the last place within so many bytes that divides no character, or the end
pub record IsCut (most : ℕ) (name : List ℕ) (cut : ℕ) : Type 0 where
  pub within : cut ≤ most
  pub boundary : IsCharBoundary name cut
  pub last : (i : ℕ) → cut < i → i ≤ most → IsCharBoundary name i → ⊥

-- a dot, the name up to there, `.nlvol-save-` and a number
pub record IsSideName (name : List ℕ) (number : ℕ) (side : List ℕ) : Type 0 where
  pub cut : ℕ
  pub is_cut : IsCut 240 name cut
  pub side_is : side ≡ codes "." ++ (take cut name ++ (codes ".nlvol-save-" ++ decimal number))

-- the same of a file that is kept
pub record IsKeptName (name : List ℕ) (number : ℕ) (kept : List ℕ) : Type 0 where
  pub cut : ℕ
  pub is_cut : IsCut 222 name cut
  pub kept_is : kept ≡ codes "." ++ (take cut name ++ (codes ".nlvol-kept-" ++ decimal number))

-- the bits of a mode that a new file has too: with another owner it isn't run as that one, and another group
-- may do nothing with it
abbrev pub kept_bits : (has_owner has_group : Bool) → ℕ
kept_bits true true = 0o7777
kept_bits true false = 0o5707
kept_bits false true = 0o3777
kept_bits false false = 0o1707
