-- When steps of storing, forgetting and tidying are refused.
use Rattle.std.specs.Prelude.{◌≡◌, ◌⊎◌, ℕ, IsTrue, List, ◌∷◌, ◌++◌, Err, false}
use Rattle.std.specs.List.{list_all, list_any}
use Rattle.nl_types.specs.declared.error.VolError.{VolError}
use Rattle.nl_types.specs.declared.error.VolError.TheVariants.{BadName, BadRange, Latest, Memory, NoCheckpoint}
use Rattle.nl_types.specs.declared.event.Change.{Change}
use Rattle.nl_types.specs.declared.row.Row.{Row}
use Rattle.nl_types.specs.Plain.NumberLists.{is_one_of}
use Rattle.nl_types.specs.Plain.Paths.{Path, is_name}
use Rattle.nl_types.specs.Plain.Rows.{is_between, is_no_range, removable, removal, rows_between}
use Rattle.nl_types.specs.Plain.Worlds.{World, latest, rows, take_out}
use Rattle.nl_folders.specs.declared.folder.FolderError.{FolderError}
use Rattle.nl_folders.specs.declared.folder.FolderError.TheVariants.{Refused}
use Rattle.nl_folders.specs.Plans.{tree_after_all}
use Rattle.nl_keep.specs.MinorOnes.{is_plain_minor, minor_ones}

-- memory lacks, or a name of the path is none
abbrev pub RefusesQuestion : Path → FolderError → Type 0
RefusesQuestion path e = (e ≡ Refused Memory) ⊎ ((e ≡ Refused BadName) × (list_all is_name path ≡ false))

-- memory lacks, or the current tree refuses a call
abbrev pub RefusesCalls : List Change → World → VolError → Type 0
RefusesCalls calls w e = (e ≡ Memory) ⊎ (tree_after_all w.tree calls ≡ Err e)

-- the numbers are no range, none is kept between them, the first one stays, or memory lacks
abbrev pub RefusesRange : (first last : ℕ) → World → VolError → Type 0
RefusesRange first last w BadRange = IsTrue (is_no_range first last)
RefusesRange first last w NoCheckpoint = list_any (is_between first last) (rows w) ≡ false
RefusesRange first last w Latest =
    is_one_of (removable (latest w) (rows_between first last (rows w))) first ≡ false
RefusesRange first last w Memory = Unit {0}
RefusesRange first last w _ = ⊥

-- the removal of a plain minor one is refused
abbrev pub RefusesMinor : Row → World → VolError → Type 0
RefusesMinor row w e =
    IsTrue (is_plain_minor row) × (removal row.number (latest w) (rows w) ≡ Err e)

-- the plain minor ones of the first rows are taken out, and the next one is refused
abbrev pub RefusesMinorOnes : List Row → World → VolError → Type 0
RefusesMinorOnes told w e =
    (before : List Row) × (row : Row) × (after : List Row) × (told ≡ before ++ row ∷ after)
    × RefusesMinor row (take_out (minor_ones before) w) e
