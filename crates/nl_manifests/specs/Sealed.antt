-- Which trees of the host a tree of a volume shows, and by which tree.
use Rattle.std.specs.Prelude.{◌≡◌, ◌+◌, Bool, true, false, ◌&&◌, not, if◌then◌else◌, nat_le, IsTrue, List, [], ◌∷◌, length, is_none, is_some, Option, Some, None, option_and_then}
use Rattle.std.specs.FinMap.{find, is_sorted}
use Rattle.std.specs.List.{flat_map, list_all}
use Rattle.nl_types.specs.declared.reply.Object.{Object}
use Rattle.nl_types.specs.declared.reply.Object.TheVariants.{Dir, File}
use Rattle.nl_types.specs.Plain.Limits.{file_limit, path_limit}
use Rattle.nl_types.specs.Plain.Paths.{Name, Path, is_name, path_cmp, same_name}
use Rattle.nl_types.specs.Plain.Trees.{Tree, lookup, name_below}
use Rattle.nl_manifests.specs.declared.attributes.Attributes.{Attributes}
use Rattle.nl_manifests.specs.declared.manifest.LineKind.{LineKind}
use Rattle.nl_manifests.specs.declared.manifest.LineKind.TheVariants as kind
use Rattle.nl_manifests.specs.declared.manifest.Line.{Line}
use Rattle.nl_manifests.specs.declared.manifest.Manifest.{Manifest}
use Rattle.nl_manifests.specs.declared.host_tree.HostObject.{HostObject}
use Rattle.nl_manifests.specs.declared.host_tree.HostObject.TheVariants as host
use Rattle.nl_manifests.specs.declared.host_tree.HostEntry.{HostEntry}
use Rattle.nl_manifests.specs.declared.sealing.SealError.{SealError}
use Rattle.nl_manifests.specs.declared.sealing.SealError.TheVariants.{Memory, TooBig, Unshown}
use Rattle.nl_manifests.specs.Manifests.{are_attributes, is_text, printed}
use Rattle.nl_manifests.specs.Readings.{manifest_in}
use Rattle.nl_manifests.specs.HostTrees.{HostTree, Shows, last_name, manifest_name, parted}

-- ---- which are shown

-- Attributes that can be told, where there are any; a link has some, as a manifest alone tells of it.
abbrev pub is_whole : HostObject → Option Attributes → Bool
is_whole object (Some a) = has_target object && are_attributes a
  where
    has_target : HostObject → Bool
    has_target host.Directory = true
    has_target (host.File bytes) = true
    has_target (host.Link target) = is_text target
is_whole host.Directory None = true
is_whole (host.File bytes) None = true
is_whole (host.Link target) None = false

-- what may stand in a directory without attributes, which has no manifest: no file is one, and none has
-- attributes
abbrev pub needs_none : Name → HostObject → Option Attributes → Bool
needs_none name host.Directory attributes = true
needs_none name (host.File bytes) attributes =
    is_none attributes && not (same_name name manifest_name && is_some (manifest_in bytes))
needs_none name (host.Link target) attributes = false

-- in a directory with attributes anything may, but in the place of the manifest
abbrev pub may_stand : (above : Option Attributes) → Name → HostEntry → Bool
may_stand None name e = needs_none name e.object e.attributes
may_stand (Some own) name e = not (same_name name manifest_name)

abbrev pub is_directory : HostObject → Bool
is_directory host.Directory = true
is_directory (host.File bytes) = false
is_directory (host.Link target) = false

-- in a directory, under a name
abbrev pub stands_below : (above : Option HostEntry) → Name → HostEntry → Bool
stands_below None name e = false
stands_below (Some d) name e =
    is_directory d.object && (is_name name && is_text name && may_stand d.attributes name e)

-- the root is a directory, and all else stands in one
abbrev pub is_placed : HostTree → Option (Path × Name) → HostEntry → Bool
is_placed tree None e = is_directory e.object
is_placed tree (Some p) e = stands_below (find path_cmp p.0 tree) p.1 e

abbrev pub is_host_entry : HostTree → Path × HostEntry → Bool
is_host_entry tree e = is_whole e.1.object e.1.attributes && is_placed tree (parted e.0) e.1

-- a tree of the host that a tree of a volume shows, if it is within the limits
abbrev pub is_host_tree : HostTree → Bool
is_host_tree tree =
    is_sorted path_cmp tree && (is_some (find path_cmp [] tree) && list_all (is_host_entry tree) tree)

-- ---- manifests

-- a directory has no line
abbrev pub kind_of : HostObject → Option LineKind
kind_of host.Directory = None
kind_of (host.File bytes) = Some kind.File
kind_of (host.Link target) = Some (kind.Link target)

abbrev pub line_with : Name → Option LineKind → Option Attributes → List Line
line_with name None attributes = []
line_with name (Some k) None = []
line_with name (Some k) (Some a) = record { name = name; kind = k; attributes = a } ∷ []

-- the line of a file or a link that has attributes, where it stands in the directory
abbrev pub line_under : Option Name → HostEntry → List Line
line_under None e = []
line_under (Some name) e = line_with name (kind_of e.object) e.attributes

abbrev pub lines_in : HostTree → Path → List Line
lines_in tree dir = flat_map (λ e. line_under (name_below dir e.0) e.1) tree

abbrev pub manifest_with : List Line → HostObject → Option Attributes → Option Manifest
manifest_with lines host.Directory None = None
manifest_with lines host.Directory (Some own) = Some (record { own = own; lines = lines })
manifest_with lines (host.File bytes) attributes = None
manifest_with lines (host.Link target) attributes = None

-- a directory that has attributes has a manifest
abbrev pub manifest_of : HostTree → Path → Option Manifest
manifest_of tree dir =
    option_and_then (λ e. manifest_with (lines_in tree dir) e.object e.attributes) (find path_cmp dir tree)

-- ---- the tree that shows it

-- a link has no object of its own
abbrev pub object_of : HostObject → Option Object
object_of host.Directory = Some Dir
object_of (host.File bytes) = Some (File bytes)
object_of (host.Link target) = None

abbrev pub own_object : Option HostEntry → Option Object
own_object e = option_and_then (λ x. object_of x.object) e

-- what is under a name in a directory that has a manifest or none
abbrev pub sealed_in : (above : Option Manifest) → Name → Option HostEntry → Option Object
sealed_in None name e = own_object e
sealed_in (Some m) name e = if same_name name manifest_name then Some (File (printed m)) else own_object e

abbrev pub manifest_over : HostTree → Option (Path × Name) → Option Manifest
manifest_over tree None = None
manifest_over tree (Some p) = manifest_of tree p.0

abbrev pub sealed_at : HostTree → Path → Option Object
sealed_at tree path =
    let p = parted path in sealed_in (manifest_over tree p) (last_name p) (find path_cmp path tree)

-- directories and files as they are, and manifests
pub record IsSealed (shown : HostTree) (tree : Tree) : Type 0 where
  pub ordered : IsTrue (is_sorted path_cmp tree)
  pub each : (path : Path) → lookup tree path ≡ sealed_at shown path

-- what is sealed is opened again as it was
abbrev pub SealedTreesOpen : Type 0
SealedTreesOpen =
    (shown opened : HostTree) (tree : Tree) → IsTrue (is_host_tree shown) → IsSealed shown tree
    → Shows tree opened → opened ≡ shown

-- ---- limits

abbrev pub is_small : Object → Bool
is_small Dir = true
is_small (File bytes) = nat_le (length bytes) file_limit

-- no more paths than a tree may have, and no greater files
abbrev pub is_within_limits : Tree → Bool
is_within_limits tree = nat_le (length tree) (path_limit + 1) && list_all (λ e. is_small e.1) tree

-- the tree that shows it is beyond them
abbrev pub IsTooBig : HostTree → Type 0
IsTooBig shown = (tree : Tree) × IsSealed shown tree × (is_within_limits tree ≡ false)

-- when a tree of the host isn't sealed
abbrev pub RefusesSealing : HostTree → SealError → Type 0
RefusesSealing shown Memory = Unit {0}
RefusesSealing shown Unshown = is_host_tree shown ≡ false
RefusesSealing shown TooBig = IsTooBig shown
