-- The file that has the pins of checkpoints, and trees with it and without it.
use Rattle.std.specs.Prelude.{◌≡◌, ℕ, Bool, false, not, codes, IsTrue, List, [], ◌∷◌, ◌++◌, Option, None, Some, Result, Ok, Err}
use Rattle.std.specs.FinMap.{is_sorted}
use Rattle.std.specs.List.{filter}
use Rattle.std.specs.Ordering.{is_lt}
use Rattle.nl_types.specs.declared.error.VolError.{VolError}
use Rattle.nl_types.specs.declared.reply.Object.{Object}
use Rattle.nl_types.specs.declared.reply.Object.TheVariants.{Dir, File}
use Rattle.nl_types.specs.Plain.Calls.{file_at}
use Rattle.nl_types.specs.Plain.Paths.{Name, Path, path_cmp, same_name}
use Rattle.nl_types.specs.Plain.Trees.{Tree, lookup}

-- the name of the file, which stands in the root
abbrev pub pins_name : Name
pins_name = codes ".nlkeep-pins"

abbrev pub pins_path : Path
pins_path = pins_name ∷ []

-- the path of the file, or one below a folder in its place
abbrev pub is_of_pins : Path → Bool
is_of_pins [] = false
is_of_pins (n ∷ path) = same_name n pins_name

-- a tree without it
abbrev pub without_pins : {X : Type 0} → List (Path × X) → List (Path × X)
without_pins tree = filter (λ e. not (is_of_pins e.0)) tree

abbrev pub is_before_pins : Path × Object → Bool
is_before_pins e = is_lt (path_cmp e.0 pins_path)

-- the entries that come before it, and all others
abbrev pub before_pins : Tree → Tree
before_pins tree = filter is_before_pins tree

abbrev pub behind_pins : Tree → Tree
behind_pins tree = filter (λ e. not (is_before_pins e)) tree

-- a tree that has no such file, with one of these bytes
abbrev pub with_pins : Option (List ℕ) → Tree → Tree
with_pins None tree = tree
with_pins (Some bytes) tree = before_pins tree ++ (pins_path, File bytes) ∷ behind_pins tree

abbrev pub answered : Result (List ℕ) VolError → Option (List ℕ)
answered (Ok bytes) = Some bytes
answered (Err e) = None

-- what a read of the file gives: its bytes, where there is one
abbrev pub pins_in : Tree → Option (List ℕ)
pins_in tree = answered (file_at tree pins_path)

-- ---- laws

-- whatever pins come to a tree in order, all else in it stays
abbrev pub PinsAreApart : Type 0
PinsAreApart =
    (pins : Option (List ℕ)) (tree : Tree) → IsTrue (is_sorted path_cmp tree)
    → without_pins (with_pins pins tree) ≡ without_pins tree

-- and they are read of it, where it had none
abbrev pub PinsAreFound : Type 0
PinsAreFound =
    (pins : Option (List ℕ)) (tree : Tree) → lookup tree [] ≡ Some Dir → without_pins tree ≡ tree
    → pins_in (with_pins pins tree) ≡ pins
