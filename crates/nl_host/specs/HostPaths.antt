-- Paths of the host below a folder.
use Rattle.std.specs.Prelude.{ℕ, ◌+◌, Bool, true, false, ◌&&◌, ◌==◌, not, if◌then◌else◌, List, [], ◌∷◌, ◌++◌, length, take, string_bytes}
use Rattle.std.specs.List.{flat_map}
use Rattle.std.specs.Str.{is_utf8}
use Rattle.nl_types.specs.Plain.Paths.{Path, is_name}
use Rattle.nl_folders.specs.Spelled.{joined}
use Rattle.nl_host.specs.declared.left_out.LeftOut.{LeftOut}
use Rattle.nl_host.specs.declared.left_out.Reason.{Reason}
use Rattle.nl_host.specs.declared.left_out.Reason.TheVariants.{NameNoText, TargetNoText}
use Rattle.nl_manifests.specs.declared.host_tree.HostObject.{HostObject}
use Rattle.nl_manifests.specs.declared.host_tree.HostObject.TheVariants.{Directory, File, Link}
use Rattle.nl_manifests.specs.HostTrees.{HostTree}

-- whether a path of the host may have the name: it may stand in a path, and is UTF-8
abbrev pub is_host_name : List ℕ → Bool
is_host_name name = is_name name && is_utf8 name

-- how many names from the first one on a path of the host may have
abbrev pub host_names : Path → ℕ
host_names [] = 0
host_names (name ∷ names) = if is_host_name name then host_names names + 1 else 0

-- the folder's path, and each of these names behind a slash
abbrev pub host_path : (folder : List ℕ) → Path → List ℕ
host_path folder path = folder ++ joined (take (host_names path) path)

-- ---- what isn't laid out

-- a path of the host, and why it isn't as it should be
abbrev pub Told : Type 0
Told = List ℕ × Reason

abbrev pub told_of : LeftOut → Told
told_of left = (string_bytes left.path, left.reason)

abbrev pub told_if : Bool → Told → List Told
told_if true told = told ∷ []
told_if false told = []

-- a folder is told where the last name of a path alone may not stand on the host
abbrev pub left_out_at : (folder : List ℕ) → Path → List Told
left_out_at folder path = told_if (host_names path + 1 == length path) (host_path folder path, NameNoText)

-- of directories and files
abbrev pub object_left_out : (folder : List ℕ) → Path → HostObject → List Told
object_left_out folder path Directory = left_out_at folder path
object_left_out folder path (File bytes) = left_out_at folder path
object_left_out folder path (Link target) = []

-- a link is told too where what it leads to is no text
abbrev pub target_left_out : (folder : List ℕ) → Path → (target : List ℕ) → List Told
target_left_out folder path target =
    if host_names path == length path
    then told_if (not (is_utf8 target)) (host_path folder path, TargetNoText)
    else left_out_at folder path

abbrev pub link_left_out : (folder : List ℕ) → Path → HostObject → List Told
link_left_out folder path Directory = []
link_left_out folder path (File bytes) = []
link_left_out folder path (Link target) = target_left_out folder path target

-- of all entries: directories and files come first
abbrev pub all_left_out : (folder : List ℕ) → HostTree → List Told
all_left_out folder entries =
    flat_map (λ e. object_left_out folder e.0 e.1.object) entries
    ++ flat_map (λ e. link_left_out folder e.0 e.1.object) entries
