-- Trees of the host, and what a tree of a volume shows of one.
use Rattle.std.specs.Prelude.{◌≡◌, ℕ, ◌&&◌, if◌then◌else◌, IsTrue, List, [], ◌∷◌, ◌++◌, map, codes, is_some, Option, Some, None, option_and_then}
use Rattle.std.specs.FinMap.{find, is_sorted}
use Rattle.std.specs.List.{flat_map}
use Rattle.std.specs.Option.{option_map}
use Rattle.nl_types.specs.declared.reply.Object.{Object}
use Rattle.nl_types.specs.declared.reply.Object.TheVariants.{Dir, File}
use Rattle.nl_types.specs.Plain.Paths.{Name, Path, name_cmp, path_cmp, same_name, is_name}
use Rattle.nl_types.specs.Plain.Trees.{Tree, lookup}
use Rattle.nl_manifests.specs.declared.attributes.Attributes.{Attributes}
use Rattle.nl_manifests.specs.declared.manifest.LineKind.{LineKind}
use Rattle.nl_manifests.specs.declared.manifest.LineKind.TheVariants as kind
use Rattle.nl_manifests.specs.declared.manifest.Line.{Line}
use Rattle.nl_manifests.specs.declared.manifest.Manifest.{Manifest}
use Rattle.nl_manifests.specs.declared.host_tree.HostObject.TheVariants as host
use Rattle.nl_manifests.specs.declared.host_tree.HostEntry.{HostEntry}
use Rattle.nl_manifests.specs.declared.host_tree.LineFault.{LineFault}
use Rattle.nl_manifests.specs.declared.host_tree.LineFault.TheVariants.{BadName, NoFile, Taken}
use Rattle.nl_manifests.specs.Readings.{manifest_in}

abbrev pub HostTree : Type 0
HostTree = List (Path × HostEntry)

-- the name of a directory's manifest
abbrev pub manifest_name : Name
manifest_name = codes ".nlkeep"

-- ---- what a tree has manifests of

abbrev pub manifest_in_object : Option Object → Option Manifest
manifest_in_object None = None
manifest_in_object (Some Dir) = None
manifest_in_object (Some (File bytes)) = manifest_in bytes

-- the manifest of a directory
abbrev pub manifest_at : Tree → Path → Option Manifest
manifest_at tree dir = manifest_in_object (lookup tree (dir ++ manifest_name ∷ []))

-- the same of what stands at a path: a file has none
abbrev pub manifest_for : Tree → Path → Object → Option Manifest
manifest_for tree path Dir = manifest_at tree path
manifest_for tree path (File bytes) = None

-- the directory of a path and its name there; the root has none
abbrev pub parted : Path → Option (Path × Name)
parted [] = None
parted (n ∷ []) = Some ([], n)
parted (n ∷ m ∷ path) = option_map (λ p. (n ∷ p.0, p.1)) (parted (m ∷ path))

abbrev pub line_named : List Line → Name → Option Line
line_named lines name = find name_cmp name (map (λ line. (line.name, line)) lines)

-- the line of a name in a manifest
abbrev pub line_in : Option Manifest → Name → Option Line
line_in None name = None
line_in (Some m) name = line_named m.lines name

-- ---- what is shown

-- a directory has the attributes that its own manifest tells
abbrev pub shown_directory : Option Manifest → HostEntry
shown_directory own = record { object = host.Directory; attributes = option_map (λ m. m.own) own }

-- a file has those that a line of a file tells
abbrev pub told_of_file : LineKind → Attributes → Option Attributes
told_of_file kind.File attributes = Some attributes
told_of_file (kind.Link target) attributes = None

abbrev pub shown_file : List ℕ → Option Line → HostEntry
shown_file bytes line = record {
  object = host.File bytes;
  attributes = option_and_then (λ l. told_of_file l.kind l.attributes) line;
}

-- a link stands where a line of a link has a name that may stand in a path
abbrev pub told_of_link : LineKind → Attributes → Option HostEntry
told_of_link kind.File attributes = None
told_of_link (kind.Link target) attributes =
    Some (record { object = host.Link target; attributes = Some attributes })

abbrev pub shown_link : Name → Option Line → Option HostEntry
shown_link name line = if is_name name then option_and_then (λ l. told_of_link l.kind l.attributes) line
    else None

-- What an object shows under a name: the manifest of its directory is `above`, and `own` that of itself, if it is
-- a directory. The file of a manifest is not shown.
abbrev pub shown_in : (above : Option Manifest) → Name → (own : Option Manifest) → Option Object → Option
    HostEntry
shown_in above name own (Some Dir) = Some (shown_directory own)
shown_in above name own (Some (File bytes)) =
    if is_some above && same_name name manifest_name then None else Some (shown_file bytes (line_in above
    name))
shown_in above name own None = shown_link name (line_in above name)

abbrev pub manifest_above : Tree → Option (Path × Name) → Option Manifest
manifest_above tree None = None
manifest_above tree (Some p) = manifest_at tree p.0

abbrev pub last_name : Option (Path × Name) → Name
last_name None = []
last_name (Some p) = p.1

-- what a tree shows at a path
abbrev pub shown_at : Tree → Path → Option HostEntry
shown_at tree path =
    let p = parted path in
    shown_in (manifest_above tree p) (last_name p) (manifest_at tree path) (lookup tree path)

-- ---- lines that show nothing

-- a link stands where nothing else does, and the file of a line is there
abbrev pub fault_at : LineKind → Option Object → Option LineFault
fault_at kind.File None = Some NoFile
fault_at kind.File (Some Dir) = Some NoFile
fault_at kind.File (Some (File bytes)) = None
fault_at (kind.Link target) None = None
fault_at (kind.Link target) (Some object) = Some Taken

abbrev pub fault_of : Line → Option Object → Option LineFault
fault_of line object = if is_name line.name then fault_at line.kind object else Some BadName

abbrev pub Refused : Type 0
Refused = List (Path × LineFault)

abbrev pub one_if : Path → Option LineFault → Refused
one_if path None = []
one_if path (Some fault) = (path, fault) ∷ []

abbrev pub refused_line : Tree → Path → Line → Refused
refused_line tree dir line =
    one_if (dir ++ line.name ∷ []) (fault_of line (lookup tree (dir ++ line.name ∷ [])))

-- the lines of a manifest that are refused
abbrev pub refused_in : Tree → Path → Option Manifest → Refused
refused_in tree dir None = []
refused_in tree dir (Some m) = flat_map (refused_line tree dir) m.lines

-- all of them, in the order of the directories, and by names in each
abbrev pub refused : Tree → Refused
refused tree = flat_map (λ e. refused_in tree e.0 (manifest_for tree e.0 e.1)) tree

-- ---- a tree as a whole

-- all that a tree shows, in the order of the paths
pub record Shows (tree : Tree) (shown : HostTree) : Type 0 where
  pub ordered : IsTrue (is_sorted path_cmp shown)
  pub each : (path : Path) → find path_cmp path shown ≡ shown_at tree path

-- a tree shows one tree of the host
abbrev pub TreesShowOne : Type 0
TreesShowOne = (tree : Tree) (one other : HostTree) → Shows tree one → Shows tree other → one ≡ other
