-- How entries and lines are looked for.
use Rattle.std.specs.Prelude.{◌≡◌, ℕ, ◌≤◌, Bool, true, false, ◌&&◌, if◌then◌else◌, List, [], ◌∷◌, length, drop, Option, None, Some}
use Rattle.std.specs.Ordering.{is_lt}
use Rattle.nl_types.specs.Plain.Paths.{Name, Path, name_cmp, path_cmp, same_name}
use Rattle.nl_manifests.specs.declared.manifest.Line.{Line}
use Rattle.nl_manifests.specs.HostTrees.{line_named}

-- whether each path comes behind the one before it
abbrev pub rising : {X : Type 0} → List (Path × X) → Bool
rising [] = true
rising (e ∷ []) = true
rising (e ∷ f ∷ entries) = is_lt (path_cmp e.0 f.0) && rising (f ∷ entries)

-- ---- lines

-- the first of the lines isn't below the name
abbrev pub LinesNotBelow : Name → List Line → Type 0
LinesNotBelow name [] = Unit {0}
LinesNotBelow name (line ∷ lines) = is_lt (name_cmp line.name name) ≡ false

-- the line of a name is looked for from one place up to another
pub record IsLineSpan (lines : List Line) (name : Name) (low high : ℕ) : Type 0 where
  pub ordered : low ≤ high
  pub within : high ≤ length lines
  pub passed : line_named lines name ≡ line_named (drop low lines) name
  pub ended : LinesNotBelow name (drop high lines)

-- the first of the lines, if it has the name
abbrev pub first_named : List Line → Name → Option Line
first_named [] name = None
first_named (line ∷ lines) name = if same_name name line.name then Some line else None
