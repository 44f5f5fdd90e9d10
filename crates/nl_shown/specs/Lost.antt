-- Manifests that are none, and what comes back where one of them had it.
use Rattle.std.specs.Prelude.{Bool, false, ◌&&◌, ◌||◌, ◌==◌, not, if◌then◌else◌, length, Option, None, Some}
use Rattle.std.specs.FinMap.{find}
use Rattle.std.specs.List.{list_any}
use Rattle.nl_types.specs.Plain.Paths.{Path, path_cmp, is_within, same_name}
use Rattle.nl_manifests.specs.declared.host_tree.HostEntry.{HostEntry}
use Rattle.nl_manifests.specs.HostTrees.{HostTree, last_name, manifest_name, parted}
use Rattle.nl_manifests.specs.Sealed.{is_directory}
use Rattle.nl_shown.specs.Parts.{folder_of}
use Rattle.nl_shown.specs.Unknown.{with_lost}

-- its last name is that of manifests
abbrev pub is_manifest_path : Path → Bool
is_manifest_path path = same_name (last_name (parted path)) manifest_name

abbrev pub is_folder : Option HostEntry → Bool
is_folder None = false
is_folder (Some e) = is_directory e.object

-- a folder stands at the path
abbrev pub has_folder : Path → HostTree → Bool
has_folder path tree = is_folder (find path_cmp path tree)

-- the path stands right in the folder of the manifest
abbrev pub stands_beside : (manifest top : Path) → Bool
stands_beside manifest top = is_within (folder_of manifest) top && (length top == length manifest)

-- The manifest tells of something at or below the path: it stands there, in a folder at or below the path, or
-- beside what is no folder. Of a folder the one in it tells.
abbrev pub tells_of : (manifest top : Path) → (top_is_folder : Bool) → Bool
tells_of manifest top top_is_folder =
    is_within top (folder_of manifest) || (stands_beside manifest top && not top_is_folder)

-- A tree shows a file of that name only where it is no manifest. Here it would tell of something at or below the
-- path.
abbrev pub is_bad_manifest : (top : Path) → (top_is_folder : Bool) → Path → Bool
is_bad_manifest top top_is_folder path = is_manifest_path path && tells_of path top top_is_folder

-- the tree shows one
abbrev pub has_bad_manifest : Path → HostTree → Bool
has_bad_manifest top tree = list_any (λ e. is_bad_manifest top (has_folder top tree) e.0) tree

-- An earlier tree as it comes back at and below the path: where a manifest is none that would tell of it, what has
-- no known attributes is closed.
abbrev pub coming_back : (later : HostTree) → (top : Path) → HostTree → HostTree
coming_back later top earlier = if has_bad_manifest top earlier then with_lost later top earlier else earlier
