-- A walk over inodes, from the root down, with its refusals. Paths are those of calls, the first name first.
use Rattle.std.specs.Prelude.{◌≡◌, ℕ, [], ◌∷◌, Option, None, Some, Result, Ok, Err}
use Rattle.std.specs.Option.{ok_or, option_map}
use Rattle.nl_types.specs.declared.error.VolError.{VolError}
use Rattle.nl_types.specs.declared.error.VolError.TheVariants.{NotFound, NotDir}
use Rattle.nl_types.specs.declared.kind.Kind.TheVariants as kind
use Rattle.nl_types.specs.declared.reply.Object.{Object}
use Rattle.nl_types.specs.Plain.Limits.{root_inode}
use Rattle.nl_types.specs.Plain.Paths.{Name, Path}
use Rattle.nl_types.specs.Plain.Calls.{and_then}
use Rattle.nl_types.specs.Inodes.{Link, InodeContent, Bytes, Records, Inodes, object_of}

-- the record of a name, in what an inode holds
abbrev pub record_in : Option InodeContent → Name → Option Link
record_in None name = None
record_in (Some (Bytes bytes)) name = None
record_in (Some (Records records)) name = records name

-- one step of a walk, which goes on through a directory alone
abbrev pub step_to : Inodes → Link → Name → Result Link VolError
step_to inodes (i, kind.File) name = Err NotDir
step_to inodes (i, kind.Directory) name = ok_or (record_in (inodes i) name) NotFound

-- the walk by these names from an inode
abbrev pub resolve_from : Inodes → Link → Path → Result Link VolError
resolve_from inodes at [] = Ok at
resolve_from inodes at (name ∷ names) =
    and_then (step_to inodes at name) (λ next. resolve_from inodes next names)

-- the walk from the root
abbrev pub resolve : Inodes → Path → Result Link VolError
resolve inodes path = resolve_from inodes (root_inode, kind.Directory) path

-- that a walk has come to a directory
abbrev pub as_dir : Link → Result (Unit {0}) VolError
as_dir (i, kind.File) = Err NotDir
as_dir (i, kind.Directory) = Ok tt

-- what stands where a walk has come to
abbrev pub object_in : Inodes → Link → Option Object
object_in inodes at = option_map object_of (inodes at.0)

-- the walk to a directory comes to this inode, where the name has this record
pub record IsNamed (inodes : Inodes) (dir : Path) (name : Name) (inode : ℕ)
    (link : Option Link) : Type 0 where
  pub resolved : resolve inodes dir ≡ Ok (inode, kind.Directory)
  pub has : record_in (inodes inode) name ≡ link
