-- Changes of what inodes hold.
use Rattle.std.specs.Prelude.{◌≡◌, ◌⊎◌, ◌≤◌, ℕ, ◌==◌, cond, List, Option, Some, None}
use Rattle.nl_types.specs.Plain.Limits.{first_inode, inode_limit, path_limit}
use Rattle.nl_types.specs.declared.error.VolError.{VolError}
use Rattle.nl_types.specs.declared.error.VolError.TheVariants.{Memory, TooBig}
use Rattle.nl_types.specs.Plain.Paths.{Name}
use Rattle.nl_types.specs.declared.kind.Kind.{Kind}
use Rattle.nl_types.specs.Inodes.{AreInUseFrom, IsLowestFreeInode}
use Rattle.nl_dirs.specs.declared.record.Record.{Record}
use Rattle.nl_tree.specs.Held.{Held, Holding, Listed, new_held}
use Rattle.nl_tree.specs.Records.{with_record, without_record}

-- one inode holds something else
abbrev pub with_held : ℕ → Option Held → Holding → Holding
with_held inode what held i = cond (i == inode) what (held i)

-- a directory of records has one more
abbrev pub with_link : ℕ → List Record → Record → Holding → Holding
with_link dir records r held = with_held dir (Some (Listed (with_record r records))) held

-- a directory of records has one less
abbrev pub without_link : ℕ → List Record → Name → Holding → Holding
without_link dir records name held = with_held dir (Some (Listed (without_record name records))) held

-- a record of a directory of records is moved to another directory of records, or the same
abbrev pub with_link_moved : ℕ → List Record → Name → ℕ → List Record → Record → Holding → Holding
with_link_moved from records name to others r held =
    with_link to (cond (to == from) (without_record name records) others) r
    (without_link from records name held)

-- an inode is new, with its record in a directory of records
abbrev pub with_new_inode : ℕ → List Record → Name → Kind → ℕ → Holding → Holding
with_new_inode dir records name kind inode held =
    with_held inode (Some (new_held kind))
    (with_link dir records (record { name = name; inode = inode; kind = kind }) held)

-- an inode is gone, and its record in a directory of records
abbrev pub without_inode : ℕ → List Record → Name → ℕ → Holding → Holding
without_inode dir records name inode held = with_held inode None (without_link dir records name held)

-- an empty file or directory is new under a name, in the lowest free inode
pub record IsCreated (old new : Holding) (dir : ℕ) (records : List Record) (name : Name) (kind : Kind)
    (inode : ℕ) : Type 0 where
  pub lowest : IsLowestFreeInode old first_inode inode
  pub adds : (i : ℕ) → new i ≡ with_new_inode dir records name kind inode old i

-- there are as many names as there may be, or no number is free
abbrev pub IsFullOf : ℕ → Holding → Type 0
IsFullOf names held = (path_limit ≤ names) ⊎ AreInUseFrom held first_inode inode_limit

-- why nothing new is made
abbrev pub IsCreateRefused : ℕ → Holding → VolError → Type 0
IsCreateRefused names held e = (e ≡ Memory) ⊎ ((e ≡ TooBig) × IsFullOf names held)
