-- How the tree that shows one of the host is put together.
use Rattle.std.specs.Prelude.{◌≡◌, ◌<◌, ◌≤◌, true, false, if◌then◌else◌, List, [], ◌∷◌, ◌++◌, length, Option, None, Some}
use Rattle.nl_types.specs.declared.reply.Object.TheVariants.{Dir, File}
use Rattle.nl_types.specs.Plain.Paths.{Name, Path, is_within}
use Rattle.nl_types.specs.Plain.Trees.{Tree, name_below}
use Rattle.nl_manifests.specs.declared.manifest.Line.{Line}
use Rattle.nl_manifests.specs.declared.manifest.Manifest.{Manifest}
use Rattle.nl_manifests.specs.declared.host_tree.HostObject.{HostObject}
use Rattle.nl_manifests.specs.declared.host_tree.HostObject.TheVariants as host
use Rattle.nl_manifests.specs.declared.host_tree.HostEntry.{HostEntry}
use Rattle.nl_manifests.specs.HostTrees.{HostTree, manifest_name}
use Rattle.nl_manifests.specs.Manifests.{printed}
use Rattle.nl_manifests.specs.Sealed.{line_under, manifest_with}

-- the lines of a directory, of entries up to the first one that isn't below it
abbrev pub lines_until : Path → HostTree → List Line
lines_until dir [] = []
lines_until dir (e ∷ tree) =
    if is_within dir e.0 then line_under (name_below dir e.0) e.1 ++ lines_until dir tree else []

-- By their lengths alone it is seen where the paths end that are below a directory: these are longer than its own,
-- and the first one behind them isn't.
abbrev pub EndsByLength : Path → HostTree → Type 0
EndsByLength dir [] = Unit {0}
EndsByLength dir (e ∷ tree) =
    (length dir < length e.0 → (is_within dir e.0 ≡ true) × EndsByLength dir tree)
    × (length e.0 ≤ length dir → is_within dir e.0 ≡ false)

-- so it is behind each entry
abbrev pub EachEndsByLength : HostTree → Type 0
EachEndsByLength [] = Unit {0}
EachEndsByLength (e ∷ tree) = EndsByLength e.0 tree × EachEndsByLength tree

-- the name that is alone
abbrev pub only_name : Path → Option Name
only_name [] = None
only_name (name ∷ []) = Some name
only_name (n ∷ m ∷ path) = None

abbrev pub manifest_part : Path → Option Manifest → Tree
manifest_part path None = []
manifest_part path (Some m) = (path ++ manifest_name ∷ [], File (printed m)) ∷ []

-- what an entry becomes
abbrev pub sealed_part : Path → HostObject → Option Manifest → Tree
sealed_part path host.Directory own = (path, Dir) ∷ manifest_part path own
sealed_part path (host.File bytes) own = (path, File bytes) ∷ []
sealed_part path (host.Link target) own = []

abbrev pub own_manifest : Path × HostEntry → HostTree → Option Manifest
own_manifest e behind = manifest_with (lines_until e.0 behind) e.1.object e.1.attributes

-- what all of them become, each by those behind it
abbrev pub sealed_parts : HostTree → Tree
sealed_parts [] = []
sealed_parts (e ∷ tree) = sealed_part e.0 e.1.object (own_manifest e tree) ++ sealed_parts tree
