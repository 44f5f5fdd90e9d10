-- When what a folder shows isn't read.
use Rattle.std.specs.Prelude.{◌≡◌, ◌⊎◌, ◌<◌, length}
use Rattle.nl_types.specs.declared.error.VolError.TheVariants.{BadPath, Memory}
use Rattle.nl_types.specs.Plain.Limits.{path_length_limit}
use Rattle.nl_types.specs.Plain.Paths.{Path}
use Rattle.nl_types.specs.Plain.Trees.{Tree, IsIn}
use Rattle.nl_folders.specs.declared.folder.FolderError.{FolderError}
use Rattle.nl_folders.specs.declared.folder.FolderError.TheVariants.{Refused}
use Rattle.nl_folders.specs.Spelled.{spelling}

-- no call can name the path
abbrev pub IsTooLong : Path → Type 0
IsTooLong path = path_length_limit < length (spelling path)

-- memory lacks, or no call can name it
abbrev pub RefusesPath : Path → FolderError → Type 0
RefusesPath path e = (e ≡ Refused Memory) ⊎ ((e ≡ Refused BadPath) × IsTooLong path)

-- memory lacks, or no call can name one of its paths
abbrev pub RefusesTree : Tree → FolderError → Type 0
RefusesTree tree e =
    (e ≡ Refused Memory)
    ⊎ ((e ≡ Refused BadPath) × ((path : Path) × IsIn tree path × IsTooLong path))
