-- The bytes of a path, part by part.
use Rattle.std.specs.Prelude.{◌≡◌, ◌≢◌, ℕ, ◌<◌, ◌==◌, if◌then◌else◌, List, [], ◌∷◌, ◌++◌, length, take, slice_index, All}
use Rattle.std.specs.List.{slice_split}
use Rattle.nl_types.specs.Plain.Characters.{slash}
use Rattle.nl_types.specs.Plain.Paths.{Path}

-- bytes with no slash
abbrev pub IsOnePart : List ℕ → Type 0
IsOnePart bytes = All (λ b. b ≢ slash) bytes

-- the first part ends here, by a slash
pub record IsPartEnd (bytes : List ℕ) (index : ℕ) : Type 0 where
  pub within : index < length bytes
  pub before : IsOnePart (take index bytes)
  pub here : slice_index bytes index ≡ slash

-- the first part, and what stands behind its slash
pub record DividesAtSlash (bytes part behind : List ℕ) : Type 0 where
  pub one : IsOnePart part
  pub whole : bytes ≡ part ++ slash ∷ behind

-- what stands between slashes
abbrev pub parts_of : List ℕ → Path
parts_of bytes = slice_split (λ b. b == slash) bytes

-- the path of what stands behind the first slash
abbrev pub path_behind : List ℕ → Path
path_behind bytes = if length bytes == 0 then [] else parts_of bytes
