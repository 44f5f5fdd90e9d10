-- What differs between two trees of the host.
use Rattle.std.specs.Prelude.{◌≡◌, ◌++◌, IsTrue, Bool, true, false, ◌&&◌, ◌==◌, not, if◌then◌else◌, List, [], ◌∷◌, map, Option, None, Some}
use Rattle.std.specs.Str.{bytes_eq}
use Rattle.std.specs.FinMap.{find, is_sorted}
use Rattle.std.specs.FinMap.Entries.{by_order}
use Rattle.nl_types.specs.Plain.Paths.{Path, path_cmp}
use Rattle.nl_folders.specs.declared.differences.Difference.{Difference}
use Rattle.nl_folders.specs.declared.differences.Difference.TheVariants as objects
use Rattle.nl_folders.specs.Differences.{Differences}
use Rattle.nl_manifests.specs.declared.attributes.Attributes.{Attributes}
use Rattle.nl_manifests.specs.declared.comparing.HostDifference.{HostDifference}
use Rattle.nl_manifests.specs.declared.comparing.HostDifference.TheVariants.{Added, Changed, Removed, Replaced, Rewritten}
use Rattle.nl_manifests.specs.declared.host_tree.HostEntry.{HostEntry}
use Rattle.nl_manifests.specs.declared.host_tree.HostObject.{HostObject}
use Rattle.nl_manifests.specs.declared.host_tree.HostObject.TheVariants.{Directory, File, Link}
use Rattle.nl_manifests.specs.HostTrees.{HostTree}

-- ---- at a path

-- modes and owners are the same, as far as both are known; times don't count
abbrev pub are_alike : Option Attributes → Option Attributes → Bool
are_alike None other = true
are_alike (Some one) None = true
are_alike (Some one) (Some other) =
    one.mode == other.mode && (one.owner == other.owner && one.group == other.group)

abbrev pub unless : Bool → HostDifference → Option HostDifference
unless same difference = if same then None else Some difference

-- what differs between two objects; `rewrites` says whether the bytes of a file do
abbrev pub object_difference : (rewrites : Bool) → HostObject → HostObject → Option HostDifference
object_difference rewrites Directory Directory = None
object_difference rewrites Directory (File new) = Some Replaced
object_difference rewrites Directory (Link new) = Some Replaced
object_difference rewrites (File old) Directory = Some Replaced
object_difference rewrites (File old) (File new) = unless (not rewrites) Rewritten
object_difference rewrites (File old) (Link new) = Some Replaced
object_difference rewrites (Link old) Directory = Some Replaced
object_difference rewrites (Link old) (File new) = Some Replaced
object_difference rewrites (Link old) (Link new) = unless (bytes_eq old new) Changed

-- and else their attributes may
abbrev pub or_changed : Option HostDifference → (alike : Bool) → Option HostDifference
or_changed (Some difference) alike = Some difference
or_changed None alike = unless alike Changed

abbrev pub entry_difference : (rewrites : Bool) → HostEntry → HostEntry → Option HostDifference
entry_difference rewrites old new =
    or_changed (object_difference rewrites old.object new.object) (are_alike old.attributes new.attributes)

-- whether a file has other bytes than one had
abbrev pub have_other_bytes : HostObject → HostObject → Bool
have_other_bytes (File old) (File new) = not (bytes_eq old new)
have_other_bytes old new = false

-- what differs between what stood somewhere and what stands there
abbrev pub host_difference_of : Option HostEntry → Option HostEntry → Option HostDifference
host_difference_of None None = None
host_difference_of None (Some new) = Some Added
host_difference_of (Some old) None = Some Removed
host_difference_of (Some old) (Some new) = entry_difference (have_other_bytes old.object new.object) old new

-- ---- all that differs, in the order of the paths

abbrev pub HostDifferences : Type 0
HostDifferences = List (Path × HostDifference)

abbrev pub told : Path → Option HostDifference → HostDifferences
told path None = []
told path (Some d) = (path, d) ∷ []

abbrev pub all_added : HostTree → HostDifferences
all_added [] = []
all_added (f ∷ new) = (f.0, Added) ∷ all_added new

-- which files are known to have other bytes
abbrev pub Rewrites : Type 0
Rewrites = Path → HostObject → HostObject → Bool

-- an old entry beside new ones, where `rest` tells of the old ones behind it and new ones
abbrev pub beside : Rewrites → Path × HostEntry → (HostTree → HostDifferences) → HostTree → HostDifferences
beside rewrites e rest [] = (e.0, Removed) ∷ rest []
beside rewrites e rest (f ∷ new) = by_order (path_cmp e.0 f.0)
    ((e.0, Removed) ∷ rest (f ∷ new))
    (told e.0 (entry_difference (rewrites e.0 e.1.object f.1.object) e.1 f.1) ++ rest new)
    ((f.0, Added) ∷ beside rewrites e rest new)

abbrev pub differences_by : Rewrites → HostTree → HostTree → HostDifferences
differences_by rewrites [] new = all_added new
differences_by rewrites (e ∷ old) new = beside rewrites e (differences_by rewrites old) new

abbrev pub host_differences : HostTree → HostTree → HostDifferences
host_differences old new = differences_by (λ path one other. have_other_bytes one other) old new

-- of two trees, a difference is told at a path exactly where they differ there
abbrev pub HostDifferencesAreExact : Type 0
HostDifferencesAreExact =
    (old new : HostTree) → IsTrue (is_sorted path_cmp old) → IsTrue (is_sorted path_cmp new) → (path : Path)
    → find path_cmp path (host_differences old new)
    ≡ host_difference_of (find path_cmp path old) (find path_cmp path new)

-- ---- by what differs between trees of a volume

abbrev pub is_of_bytes : Option Difference → Bool
is_of_bytes None = false
is_of_bytes (Some objects.Added) = false
is_of_bytes (Some objects.Removed) = false
is_of_bytes (Some objects.Rewritten) = true
is_of_bytes (Some objects.Replaced) = false

-- a file has other bytes where these differences tell so
abbrev pub told_by : Differences → Rewrites
told_by of_objects path one other = is_of_bytes (find path_cmp path of_objects)
