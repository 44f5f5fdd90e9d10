-- How an entry is looked for from a place near it on.
use Rattle.std.specs.Prelude.{◌≡◌, ℕ, ◌<◌, ◌≤◌, IsTrue, false, if◌then◌else◌, List, [], ◌∷◌, length, drop, Option, None, Some}
use Rattle.std.specs.FinMap.{find, is_sorted}
use Rattle.std.specs.declared.cmp.Ordering.TheVariants.{Less}
use Rattle.std.specs.Ordering.{is_lt}
use Rattle.nl_types.specs.Plain.Paths.{Path, path_cmp, same_path}
use Rattle.nl_folders.specs.declared.looking.Span.{Span}
use Rattle.nl_folders.specs.Private.Agreeing.{AgreeOn}

-- the first of the entries isn't below the path
abbrev pub BeginsNotBelow : {X : Type 0} → Path → List (Path × X) → Type 0
BeginsNotBelow path [] = Unit {0}
BeginsNotBelow path (e ∷ entries) = is_lt (path_cmp e.0 path) ≡ false

-- so many names of the path are those of each entry from one place on that is below it
abbrev pub AgreeBelow : {X : Type 0} → List (Path × X) → Path → (low count : ℕ) → Type 0
AgreeBelow {X} entries path low count =
    (place : ℕ) (e : Path × X) (rest : List (Path × X)) → low ≤ place → drop place entries ≡ e ∷ rest
    → path_cmp e.0 path ≡ Less → AgreeOn count e.0 path

-- and of each entry up to another place that is above it
abbrev pub AgreeAbove : {X : Type 0} → List (Path × X) → Path → (high count : ℕ) → Type 0
AgreeAbove {X} entries path high count =
    (place : ℕ) (e : Path × X) (rest : List (Path × X)) → place < high → drop place entries ≡ e ∷ rest
    → path_cmp path e.0 ≡ Less → AgreeOn count e.0 path

-- the entry of a path, if the entries are in order, is looked for in a span
pub record IsBetween {X : Type 0} (entries : List (Path × X)) (path : Path) (span : Span) : Type 0 where
  pub ordered : span.low ≤ span.high
  pub within : span.high ≤ length entries
  pub passed : IsTrue (is_sorted path_cmp entries) → find path_cmp path entries ≡ find path_cmp path (drop span.low entries)
  pub ended : IsTrue (is_sorted path_cmp entries) → BeginsNotBelow path (drop span.high entries)
  pub below : IsTrue (is_sorted path_cmp entries) → AgreeBelow entries path span.low span.below
  pub above : IsTrue (is_sorted path_cmp entries) → AgreeAbove entries path span.high span.above

-- what stands at the path, if the first of the entries has it
abbrev pub first_at : {X : Type 0} → List (Path × X) → Path → Option X
first_at [] path = None
first_at (e ∷ entries) path = if same_path path e.0 then Some e.1 else None
