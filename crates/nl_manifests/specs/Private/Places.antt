-- Entries that come to others in order, and the place of each.
use Rattle.std.specs.Prelude.{◌≡◌, ℕ, ◌-◌, ◌<◌, ◌≤◌, Bool, true, false, List, [], ◌∷◌, ◌++◌, length, take, drop, slice_set}
use Rattle.std.specs.FinMap.{put, is_sorted}
use Rattle.std.specs.Ordering.{is_eq, is_lt}
use Rattle.nl_types.specs.Plain.Paths.{Path, path_cmp}
use Rattle.nl_manifests.specs.declared.ordered.Place.{Place}
use Rattle.nl_manifests.specs.declared.ordered.Place.TheVariants.{Over, Before}

-- ---- entries in order

-- entries, put one after another to the others
abbrev pub puts : {X : Type 0} → (es more : List (Path × X)) → List (Path × X)
puts es [] = es
puts es (e ∷ more) = puts (put path_cmp e.0 e.1 es) more

-- so the ones that were in order are it now
pub record Puts {X : Type 0} (old more new : List (Path × X)) : Type 0 where
  pub is : new ≡ puts old more
  pub ordered : is_sorted path_cmp new ≡ true

abbrev pub PutsIfOrdered : {X : Type 0} → (old more new : List (Path × X)) → Type 0
PutsIfOrdered old more new = is_sorted path_cmp old ≡ true → Puts old more new

-- ---- places

-- the first of the entries is above the path
abbrev pub BeginsAbove : {X : Type 0} → Path → List (Path × X) → Type 0
BeginsAbove path [] = Unit {0}
BeginsAbove path (e ∷ entries) = is_lt (path_cmp path e.0) ≡ true

-- the entry before the place isn't above the path, and the one at it is
pub record IsPlace {X : Type 0} (path : Path) (entries : List (Path × X)) (place : ℕ) : Type 0 where
  pub within : place ≤ length entries
  pub behind : (e : Path × X) (rest : List (Path × X)) → 0 < place → drop (place - 1) entries ≡ e ∷ rest
      → is_lt (path_cmp path e.0) ≡ false
  pub before : BeginsAbove path (drop place entries)

-- whether the entry before the place is at the path
abbrev pub IsBefore : {X : Type 0} → Path → List (Path × X) → ℕ → Bool → Type 0
IsBefore {X} path entries place true =
    (0 < place) × ((e : Path × X) (rest : List (Path × X)) → drop (place - 1) entries ≡ e ∷ rest
    → is_eq (path_cmp path e.0) ≡ true)
IsBefore {X} path entries place false =
    (e : Path × X) (rest : List (Path × X)) → 0 < place → drop (place - 1) entries ≡ e ∷ rest
    → is_eq (path_cmp path e.0) ≡ false

-- what comes to entries in order at that place is put there
abbrev pub GoesTo : {X : Type 0} → Path → List (Path × X) → Place → Type 0
GoesTo {X} path entries (Over place) =
    (place < length entries) × ((v : X) → is_sorted path_cmp entries ≡ true
    → put path_cmp path v entries ≡ slice_set entries place (path, v))
GoesTo {X} path entries (Before place) =
    (place ≤ length entries) × ((v : X) → is_sorted path_cmp entries ≡ true
    → put path_cmp path v entries ≡ take place entries ++ (path, v) ∷ drop place entries)
