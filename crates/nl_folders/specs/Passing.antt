-- Files that are known to be one in two folders, and are not read.
use Rattle.std.specs.Prelude.{◌≡◌, if◌then◌else◌, IsTrue, Bool, List, [], ℕ, map, Some}
use Rattle.std.specs.FinMap.{is_sorted}
use Rattle.nl_types.specs.declared.reply.Object.{Object}
use Rattle.nl_types.specs.declared.reply.Object.TheVariants.{Dir, File}
use Rattle.nl_types.specs.Plain.Paths.{Path, path_cmp}
use Rattle.nl_types.specs.Plain.Trees.{Tree, IsTree, lookup}
use Rattle.nl_folders.specs.Differences.{differences}

-- an object whose bytes don't count
abbrev pub without_bytes : Object → Object
without_bytes Dir = Dir
without_bytes (File bytes) = File []

abbrev pub passed_object : Bool → Object → Object
passed_object passes object = if passes then without_bytes object else object

-- the tree in which the files that are passed over count as empty
abbrev pub emptied : (Path → Bool) → Tree → Tree
emptied known tree = map (λ e. (e.0, passed_object (known e.0) e.1)) tree

-- each path that is known has a file
abbrev pub AreFiles : (Path → Bool) → Tree → Type 0
AreFiles known tree =
    (q : Path) → IsTrue (known q) → (bytes : List ℕ) × (lookup tree q ≡ Some (File bytes))

-- each path that is known has the same file in both trees
abbrev pub AreSameFiles : (Path → Bool) → Tree → Tree → Type 0
AreSameFiles known old new =
    (q : Path) → IsTrue (known q)
    → (bytes : List ℕ) × (lookup old q ≡ Some (File bytes)) × (lookup new q ≡ Some (File bytes))

-- what is shown where a folder shows a tree, and known files count as empty
abbrev pub ShowsEmptied : (Tree → Type 0) → (Path → Bool) → Tree → Type 0
ShowsEmptied shows known seen =
    (tree : Tree) × IsTree tree × AreFiles known tree × shows tree × (seen ≡ emptied known tree)

-- whether the bytes of files that are the same in both trees count makes no difference
abbrev pub DifferencesPassOver : Type 0
DifferencesPassOver =
    (old new : Tree) (known : Path → Bool) → IsTrue (is_sorted path_cmp old) → IsTrue (is_sorted path_cmp new)
    → AreSameFiles known old new
    → differences (emptied known old) (emptied known new) ≡ differences old new
