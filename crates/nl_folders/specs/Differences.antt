-- What differs between two trees.
use Rattle.std.specs.Prelude.{◌≡◌, ◌++◌, IsTrue, Bool, true, false, ◌&&◌, if◌then◌else◌, List, [], ◌∷◌, Option, None, Some}
use Rattle.std.specs.Str.{bytes_eq}
use Rattle.std.specs.Ordering.{is_lt}
use Rattle.std.specs.FinMap.{find, is_sorted}
use Rattle.std.specs.FinMap.Entries.{by_order}
use Rattle.nl_types.specs.declared.reply.Object.{Object}
use Rattle.nl_types.specs.declared.reply.Object.TheVariants.{Dir, File}
use Rattle.nl_types.specs.Plain.Paths.{Path, path_cmp}
use Rattle.nl_types.specs.Plain.Trees.{Tree, lookup}
use Rattle.nl_folders.specs.declared.differences.Difference.{Difference}
use Rattle.nl_folders.specs.declared.differences.Difference.TheVariants.{Added, Removed, Rewritten, Replaced}

abbrev pub same_kind : Object → Object → Bool
same_kind Dir Dir = true
same_kind Dir (File new) = false
same_kind (File old) Dir = false
same_kind (File old) (File new) = true

abbrev pub same_object : Object → Object → Bool
same_object Dir Dir = true
same_object Dir (File new) = false
same_object (File old) Dir = false
same_object (File old) (File new) = bytes_eq old new

-- what differs between what stood somewhere and what stands there
abbrev pub difference_of : Option Object → Option Object → Option Difference
difference_of None None = None
difference_of None (Some new) = Some Added
difference_of (Some old) None = Some Removed
difference_of (Some Dir) (Some Dir) = None
difference_of (Some Dir) (Some (File new)) = Some Replaced
difference_of (Some (File old)) (Some Dir) = Some Replaced
difference_of (Some (File old)) (Some (File new)) = if bytes_eq old new then None else Some Rewritten

-- what differs at a path
abbrev pub difference_at : Tree → Tree → Path → Option Difference
difference_at old new path = difference_of (lookup old path) (lookup new path)

-- whether each path comes behind the one before it
abbrev pub rising : Tree → Bool
rising [] = true
rising (e ∷ []) = true
rising (e ∷ f ∷ entries) = is_lt (path_cmp e.0 f.0) && rising (f ∷ entries)

-- ---- all that differs, in the order of the paths

abbrev pub Differences : Type 0
Differences = List (Path × Difference)

abbrev pub told : Path → Option Difference → Differences
told path None = []
told path (Some d) = (path, d) ∷ []

abbrev pub all_added : Tree → Differences
all_added [] = []
all_added (f ∷ new) = (f.0, Added) ∷ all_added new

-- an old entry beside new ones, where `rest` tells of the old ones behind it and new ones
abbrev pub beside : Path × Object → (Tree → Differences) → Tree → Differences
beside e rest [] = (e.0, Removed) ∷ rest []
beside e rest (f ∷ new) = by_order (path_cmp e.0 f.0)
    ((e.0, Removed) ∷ rest (f ∷ new))
    (told e.0 (difference_of (Some e.1) (Some f.1)) ++ rest new)
    ((f.0, Added) ∷ beside e rest new)

abbrev pub differences : Tree → Tree → Differences
differences [] new = all_added new
differences (e ∷ old) new = beside e (differences old) new

-- of two trees, a difference is told at a path exactly where they differ there
abbrev pub DifferencesAreExact : Type 0
DifferencesAreExact =
    (old new : Tree) → IsTrue (is_sorted path_cmp old) → IsTrue (is_sorted path_cmp new) → (path : Path)
    → find path_cmp path (differences old new) ≡ difference_at old new path
