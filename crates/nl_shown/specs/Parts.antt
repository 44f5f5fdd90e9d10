-- What lies at and below a path, as a tree of its own.
use Rattle.std.specs.Prelude.{◌-◌, Bool, false, not, if◌then◌else◌, [], ◌∷◌, length, take, drop}
use Rattle.nl_types.specs.Plain.Paths.{Path}
use Rattle.nl_folders.specs.Parts.{part_below}
use Rattle.nl_manifests.specs.HostTrees.{HostTree}
use Rattle.nl_manifests.specs.Sealed.{is_directory}

-- the path of the folder that something stands in
abbrev pub folder_of : Path → Path
folder_of path = take (length path - 1) path

-- its name alone
abbrev pub name_of : Path → Path
name_of path = drop (length path - 1) path

-- the first entry is no folder
abbrev pub stands_alone : HostTree → Bool
stands_alone [] = false
stands_alone (e ∷ part) = not (is_directory e.1.object)

-- what stands at the path comes first: a folder stands with all below it, a file or a link under its name
abbrev pub standing : Path → HostTree → HostTree
standing path [] = []
standing path (e ∷ below) = if is_directory e.1.object then e ∷ below else (name_of path, e.1) ∷ []

-- what lies at and below the path, with the rest of the paths
abbrev pub part_of : Path → HostTree → HostTree
part_of path tree = standing path (part_below tree path)
