-- How calls are judged by inodes alone. Each answers what the call on the tree answers, with the same
-- refusals in the same order. A path that is not the root is given as its directory and its last name, where
-- calls look there.
use Rattle.std.specs.Prelude.{◌≡◌, ℕ, Bool, true, false, ◌&&◌, ◌||◌, if◌then◌else◌, nat_lt, List, [], ◌∷◌, ◌++◌, map, length, is_some, Option, None, Some, Result, Ok, Err}
use Rattle.nl_types.specs.declared.error.VolError.{VolError}
use Rattle.nl_types.specs.declared.error.VolError.TheVariants.{NotDir, IsDir, Exists, NotEmpty, BadPath, IntoItself, TooBig}
use Rattle.nl_types.specs.declared.kind.Kind.{Kind}
use Rattle.nl_types.specs.declared.kind.Kind.TheVariants as kind
use Rattle.nl_types.specs.declared.reply.Named.{Named}
use Rattle.nl_types.specs.declared.reply.Stat.{Stat}
use Rattle.nl_types.specs.declared.reply.Stat.TheVariants as status
use Rattle.nl_types.specs.Plain.Limits.{path_limit}
use Rattle.nl_types.specs.Plain.Paths.{Name, Path, same_path}
use Rattle.nl_types.specs.Plain.Calls.{and_then, refuse_if, is_root, is_above}
use Rattle.nl_types.specs.Inodes.{Link, InodeContent, Bytes, Records, Inodes}
use Rattle.nl_types.specs.InodeChanges.{ListsRecords}
use Rattle.nl_types.specs.Resolving.{record_in, resolve, as_dir}

-- a list for each inode number
abbrev pub Listing : Type 0
Listing = ℕ → List (Name × Link)

-- the lists of directories have their records, ascending
abbrev pub IsListing : Inodes → Listing → Type 0
IsListing inodes listing =
    (i : ℕ) (records : Name → Option Link) → inodes i ≡ Some (Records records)
    → ListsRecords records (listing i)

-- ---- files

abbrev pub bytes_of : Option InodeContent → List ℕ
bytes_of None = []
bytes_of (Some (Bytes bytes)) = bytes
bytes_of (Some (Records records)) = []

-- the bytes of what a walk has come to
abbrev pub bytes_in : Inodes → Link → Result (List ℕ) VolError
bytes_in inodes (i, kind.Directory) = Err IsDir
bytes_in inodes (i, kind.File) = Ok (bytes_of (inodes i))

abbrev pub judge_file : Inodes → Path → Result (List ℕ) VolError
judge_file inodes path = and_then (resolve inodes path) (bytes_in inodes)

-- ---- directories

abbrev pub has_any : Listing → ℕ → Bool
has_any listing i = nat_lt 0 (length (listing i))

-- the inode of the directory in which the call makes a name, where the tree has so many paths
abbrev pub judge_create : Inodes → ℕ → Path → Name → Result ℕ VolError
judge_create inodes paths dir name =
    and_then (resolve inodes dir) (λ at.
    and_then (as_dir at) (λ _.
    refuse_if (is_some (record_in (inodes at.0) name)) Exists (
    refuse_if (nat_lt path_limit paths) TooBig (
    Ok at.0))))

abbrev pub judge_rmdir : Inodes → Listing → Path → Result (Unit {0}) VolError
judge_rmdir inodes listing path =
    refuse_if (is_root path) BadPath (
    and_then (resolve inodes path) (λ at.
    and_then (as_dir at) (λ _.
    refuse_if (has_any listing at.0) NotEmpty (Ok tt))))

-- ---- a rename

abbrev pub is_dir_kind : Kind → Bool
is_dir_kind kind.Directory = true
is_dir_kind kind.File = false

-- whether an inode of one kind may take the place of what a record names
abbrev pub may_take : Listing → Kind → Option Link → Result (Unit {0}) VolError
may_take listing k None = Ok tt
may_take listing kind.File (Some (i, kind.Directory)) = Err IsDir
may_take listing kind.File (Some (i, kind.File)) = Ok tt
may_take listing kind.Directory (Some (i, kind.File)) = Err NotDir
may_take listing kind.Directory (Some (i, kind.Directory)) = refuse_if (has_any listing i) NotEmpty (Ok tt)

-- whether anything moves
abbrev pub judge_rename : Inodes → Listing → Path → Path → Name → Result Bool VolError
judge_rename inodes listing from dir name =
    let to = dir ++ name ∷ [] in
    refuse_if (is_root from || is_root to) BadPath (
    and_then (resolve inodes from) (λ at.
    refuse_if (is_dir_kind at.1 && is_above from to) IntoItself (
    and_then (resolve inodes dir) (λ into.
    and_then (as_dir into) (λ _.
    if same_path from to then Ok false else (
    and_then (may_take listing at.1 (record_in (inodes into.0) name)) (λ _.
    Ok true)))))))

-- ---- calls that only read

abbrev pub shown : Name × Link → Named
shown r = record { name = r.0; kind = r.1.1 }

abbrev pub judge_list : Inodes → Listing → Path → Result (List Named) VolError
judge_list inodes listing path =
    and_then (resolve inodes path) (λ at. and_then (as_dir at) (λ _. Ok (map shown (listing at.0))))

abbrev pub stat_in : Inodes → Listing → Link → Stat
stat_in inodes listing (i, kind.Directory) = status.Dir (length (listing i))
stat_in inodes listing (i, kind.File) = status.File (length (bytes_of (inodes i)))

abbrev pub judge_stat : Inodes → Listing → Path → Result Stat VolError
judge_stat inodes listing path = and_then (resolve inodes path) (λ at. Ok (stat_in inodes listing at))
