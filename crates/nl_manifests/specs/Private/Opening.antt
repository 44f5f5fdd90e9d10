-- What is shown of a tree, put together entry by entry.
use Rattle.std.specs.Prelude.{List, [], ◌∷◌, ◌++◌, ℕ, Option, None, Some}
use Rattle.std.specs.FinMap.{find}
use Rattle.std.specs.List.{flat_map}
use Rattle.nl_types.specs.declared.reply.Object.{Object}
use Rattle.nl_types.specs.declared.reply.Object.TheVariants.{Dir, File}
use Rattle.nl_types.specs.Plain.Paths.{Name, Path, path_cmp}
use Rattle.nl_types.specs.Plain.Trees.{Tree, lookup}
use Rattle.nl_manifests.specs.declared.manifest.Line.{Line}
use Rattle.nl_manifests.specs.declared.manifest.Manifest.{Manifest}
use Rattle.nl_manifests.specs.declared.host_tree.HostEntry.{HostEntry}
use Rattle.nl_manifests.specs.HostTrees.{HostTree, Refused, last_name, manifest_for, parted, refused_line, shown_directory, shown_in, shown_link}

-- ---- manifests

-- the manifests of directories
abbrev pub Manifests : Type 0
Manifests = List (Path × Manifest)

abbrev pub manifest_entry : Path → Option Manifest → Manifests
manifest_entry path None = []
manifest_entry path (Some m) = (path, m) ∷ []

abbrev pub manifests : Tree → Manifests
manifests tree = flat_map (λ e. manifest_entry e.0 (manifest_for tree e.0 e.1)) tree

-- ---- entries

abbrev pub entry_if : Path → Option HostEntry → HostTree
entry_if path None = []
entry_if path (Some entry) = (path, entry) ∷ []

-- a link, where nothing stands in its place
abbrev pub link_where : Option Object → Line → Option HostEntry
link_where None line = shown_link line.name (Some line)
link_where (Some object) line = None

abbrev pub link_part : Tree → Path → Line → HostTree
link_part tree dir line =
    entry_if (dir ++ line.name ∷ []) (link_where (lookup tree (dir ++ line.name ∷ [])) line)

abbrev pub links_part : Tree → Path → Option Manifest → HostTree
links_part tree dir None = []
links_part tree dir (Some m) = flat_map (link_part tree dir) m.lines

abbrev pub above_in : Manifests → Option (Path × Name) → Option Manifest
above_in all None = None
above_in all (Some p) = find path_cmp p.0 all

abbrev pub file_part : Manifests → Path → List ℕ → HostTree
file_part all path bytes =
    entry_if path (shown_in (above_in all (parted path)) (last_name (parted path)) None (Some (File bytes)))

-- a directory with the links in it, or a file
abbrev pub object_part : Tree → Manifests → Path → Object → HostTree
object_part tree all path Dir =
    (path, shown_directory (find path_cmp path all)) ∷ links_part tree path (find path_cmp path all)
object_part tree all path (File bytes) = file_part all path bytes

abbrev pub parts : Tree → Manifests → Tree → HostTree
parts tree all entries = flat_map (λ e. object_part tree all e.0 e.1) entries

-- ---- lines that show nothing

abbrev pub refused_lines : Tree → Manifests → Refused
refused_lines tree all = flat_map (λ k. flat_map (refused_line tree k.0) k.1.lines) all
