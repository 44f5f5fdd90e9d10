-- Folders of the host as a system has them.
use Rattle.std.specs.Prelude.{◌≡◌, Bool, true, false, ◌&&◌, not, IsTrue, [], ◌∷◌, ◌++◌, is_none, is_some, Option, Some}
use Rattle.std.specs.FinMap.{find, is_sorted}
use Rattle.nl_types.specs.Plain.Paths.{Name, Path, is_name, path_cmp, same_name}
use Rattle.nl_manifests.specs.declared.attributes.Attributes.{Attributes}
use Rattle.nl_manifests.specs.declared.host_tree.HostObject.{HostObject}
use Rattle.nl_manifests.specs.declared.host_tree.HostObject.TheVariants.{Directory, File, Link}
use Rattle.nl_manifests.specs.declared.host_tree.HostEntry.{HostEntry}
use Rattle.nl_manifests.specs.Manifests.{are_bytes}
use Rattle.nl_manifests.specs.HostTrees.{HostTree, manifest_name}
use Rattle.nl_manifests.specs.Sealed.{is_directory, is_host_tree, is_whole}

abbrev pub is_link : HostObject → Bool
is_link Directory = false
is_link (File bytes) = false
is_link (Link target) = true

-- what is kept of a file: attributes, whatever they are, or of a plain folder none, and no links
abbrev pub is_kept : (plain : Bool) → HostObject → Option Attributes → Bool
is_kept true object attributes = is_none attributes && not (is_link object)
is_kept false object attributes = is_some attributes && is_whole object attributes

-- bytes of the host that may stand in a path, but for the name that is left out
abbrev pub may_be_named : Name → Bool
may_be_named name = is_name name && (are_bytes name && not (same_name name manifest_name))

pub record HasDirectory (tree : HostTree) (path : Path) : Type 0 where
  pub entry : HostEntry
  pub found : find path_cmp path tree ≡ Some entry
  pub directory : is_directory entry.object ≡ true

-- a folder as it was read: its root is a directory, and all else has a name in one
pub record IsFolder (plain : Bool) (tree : HostTree) : Type 0 where
  pub ordered : IsTrue (is_sorted path_cmp tree)
  pub root : HasDirectory tree []
  pub kept : (path : Path) (e : HostEntry) → find path_cmp path tree ≡ Some e
      → IsTrue (is_kept plain e.object e.attributes)
  pub named : (dir : Path) (name : Name) (e : HostEntry) → find path_cmp (dir ++ name ∷ []) tree ≡ Some e
      → IsTrue (may_be_named name)
  pub above : (dir : Path) (name : Name) (e : HostEntry) → find path_cmp (dir ++ name ∷ []) tree ≡ Some e
      → HasDirectory tree dir

-- each is a tree of the host, so none is refused as one that no tree shows
abbrev pub FoldersAreHostTrees : Type 0
FoldersAreHostTrees =
    (plain : Bool) (tree : HostTree) → IsFolder plain tree → IsTrue (is_host_tree tree)
