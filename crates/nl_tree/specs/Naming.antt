-- Where the last name of a path stands.
use Rattle.std.specs.Prelude.{◌≡◌, ℕ, [], ◌∷◌, ◌++◌, List, map, Option, None, Some, Err}
use Rattle.nl_types.specs.declared.error.VolError.{VolError}
use Rattle.nl_types.specs.Plain.Paths.{Name, Path}
use Rattle.nl_types.specs.Plain.Calls.{and_then}
use Rattle.nl_types.specs.Inodes.{Link}
use Rattle.nl_types.specs.Judging.{Listing}
use Rattle.nl_types.specs.Resolving.{IsNamed, as_dir, resolve}
use Rattle.nl_dirs.specs.declared.record.Record.{Record}
use Rattle.nl_tree.specs.Held.{Held, Holding, Listed, Stored, inodes_of_holding}

-- the last name of the path stands in this directory, where it has this record
pub record IsPlaceOf (held : Holding) (path : Path) (directory : ℕ) (name : Name)
    (link : Option Link) : Type 0 where
  pub dir : Path
  pub is_path : path ≡ dir ++ name ∷ []
  pub named : IsNamed (inodes_of_holding held) dir name directory link

-- why what stands before the last name of the path is no directory
pub record IsPlaceRefused (held : Holding) (path : Path) (e : VolError) : Type 0 where
  pub dir : Path
  pub name : Name
  pub is_path : path ≡ dir ++ name ∷ []
  pub refused : and_then (resolve (inodes_of_holding held) dir) as_dir ≡ Err e

-- ---- all records of directories

-- a record, as a listing has it
abbrev pub listed_record : Record → Name × Link
listed_record r = (r.name, (r.inode, r.kind))

-- the records of a directory
abbrev pub listing_of_held : Option Held → List (Name × Link)
listing_of_held None = []
listing_of_held (Some (Stored size blocks)) = []
listing_of_held (Some (Listed records)) = map listed_record records

-- the records of each directory
abbrev pub listing_of : Holding → Listing
listing_of holding i = listing_of_held (holding i)
