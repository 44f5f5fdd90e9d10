-- A tree in which a path stands as it did in an earlier one.
use Rattle.std.specs.Prelude.{◌≡◌, Bool, true, false, if◌then◌else◌, IsTrue, Option, None, Some, option_and_then}
use Rattle.std.specs.FinMap.{find, is_sorted}
use Rattle.nl_types.specs.Plain.Paths.{Path, path_cmp, is_within, same_path}
use Rattle.nl_manifests.specs.declared.attributes.Attributes.{Attributes}
use Rattle.nl_manifests.specs.declared.host_tree.HostEntry.{HostEntry}
use Rattle.nl_manifests.specs.declared.host_tree.HostObject.TheVariants as host
use Rattle.nl_manifests.specs.HostTrees.{HostTree}
use Rattle.nl_manifests.specs.Sealed.{is_directory}
use Rattle.nl_shown.specs.declared.reverting.RevertError.{RevertError}
use Rattle.nl_shown.specs.declared.reverting.RevertError.TheVariants.{Memory, NoFolder, NothingThere}
use Rattle.nl_shown.specs.Parts.{folder_of}

abbrev pub attributes_of : Option HostEntry → Option Attributes
attributes_of e = option_and_then (λ (x : HostEntry). x.attributes) e

abbrev pub folder_with : Option Attributes → HostEntry
folder_with attributes = record { object = host.Directory; attributes = attributes }

-- the attributes that something has, or else had
abbrev pub or_earlier : (now earlier : Option Attributes) → Option Attributes
or_earlier None earlier = earlier
or_earlier (Some a) earlier = Some a

-- A folder comes back where nothing stands. One that stands there keeps its attributes; the one that the path
-- stands in gets those that it had, if it has none.
abbrev pub attributes_above : (is_next : Bool) → (later earlier : Option HostEntry) → Option Attributes
attributes_above is_next None earlier = attributes_of earlier
attributes_above true (Some d) earlier = or_earlier d.attributes (attributes_of earlier)
attributes_above false (Some d) earlier = d.attributes

-- At and below the path all stands as it did. Above it stand folders. Elsewhere all stands as it does.
abbrev pub reverted_at : (later earlier : HostTree) → (top path : Path) → Option HostEntry
reverted_at later earlier top path =
    if is_within top path then find path_cmp path earlier
    else (if is_within path top then Some (folder_with (attributes_above (same_path path (folder_of top))
    (find path_cmp path later) (find path_cmp path earlier)))
    else find path_cmp path later)

abbrev pub IsInOrder : HostTree → Type 0
IsInOrder tree = IsTrue (is_sorted path_cmp tree)

pub record IsReverted (later earlier : HostTree) (top : Path) (tree : HostTree) : Type 0 where
  pub ordered : IsInOrder tree
  pub each : (path : Path) → find path_cmp path tree ≡ reverted_at later earlier top path

-- ---- refusals

-- a file or a link stands above the path
pub record IsInTheWay (later : HostTree) (top : Path) : Type 0 where
  pub path : Path
  pub above : is_within path top ≡ true
  pub apart : is_within top path ≡ false
  pub entry : HostEntry
  pub stands : find path_cmp path later ≡ Some entry
  pub no_folder : is_directory entry.object ≡ false

abbrev pub RefusesRevert : (later earlier : HostTree) → Path → RevertError → Type 0
RefusesRevert later earlier top Memory = Unit {0}
RefusesRevert later earlier top NothingThere = find path_cmp top earlier ≡ None
RefusesRevert later earlier top NoFolder = IsInTheWay later top
