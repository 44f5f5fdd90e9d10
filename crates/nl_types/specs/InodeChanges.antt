-- What file calls do to inodes, in words of these alone. Paths are upward ones.
--     Creates          one inode more, and its record
--     Rewrites         other bytes in one file
--     Removes          one inode less, a file's or an empty directory's, and its record
--     Renames          a record under another name, where nothing has it
--     Replaces         the same, where a file or an empty directory has it, which is removed
use Rattle.std.specs.Prelude.{◌≡◌, ℕ, IsTrue, ◌==◌, ◌&&◌, false, if◌then◌else◌, List, ◌∷◌, reverse, Option, Some, None}
use Rattle.std.specs.FinMap.{find, is_sorted}
use Rattle.nl_types.specs.declared.reply.Object.{Object}
use Rattle.nl_types.specs.declared.reply.Object.TheVariants.{Dir, File}
use Rattle.nl_types.specs.Plain.Paths.{Name, Path, name_cmp, same_name, is_within}
use Rattle.nl_types.specs.Plain.Trees.{object_kind}
use Rattle.nl_types.specs.Inodes.{Link, InodeContent, Bytes, Records, Inodes, reached}

-- ---- changes of records

-- the inode holds what it held, its records changed
abbrev pub HoldsChanged : (Name → Option Link → Option Link) → Option InodeContent → Option InodeContent
    → Type 0
HoldsChanged change None new = new ≡ None
HoldsChanged change (Some (Bytes bytes)) new = new ≡ Some (Bytes bytes)
HoldsChanged change (Some (Records records)) new =
    (changed : Name → Option Link) × (new ≡ Some (Records changed))
    × ((n : Name) → changed n ≡ change n (records n))

-- the record of a name in a directory
unfoldable pub put_record : ℕ → Name → Option Link → ℕ → Name → Option Link → Option Link
put_record dir name link i n old = if (i == dir) && same_name n name then link else old

-- the record of one name taken out of a directory, and put under another name into a directory, maybe the
-- same
abbrev pub move_record : ℕ → Name → ℕ → Name → Option Link → ℕ → Name → Option Link → Option Link
move_record from from_name to to_name link i n old =
    put_record to to_name link i n (put_record from from_name None i n old)

-- ---- what inodes hold

-- the path is a directory's: its inode, and the records in it
pub record HasRecords (inodes : Inodes) (dir : Path) : Type 0 where
  pub inode : ℕ
  pub records : Name → Option Link
  pub is_reached : reached inodes dir ≡ Some inode
  pub holds : inodes inode ≡ Some (Records records)

-- the list has the records of a directory, ascending
pub record ListsRecords (records : Name → Option Link) (listed : List (Name × Link)) : Type 0 where
  pub ascending : IsTrue (is_sorted name_cmp listed)
  pub finds : (n : Name) → find name_cmp n listed ≡ records n

-- what a new inode holds
abbrev pub fresh_content : Object → InodeContent
fresh_content Dir = Records (λ _. None)
fresh_content (File bytes) = Bytes bytes

-- no record is in what an inode holds
abbrev pub IsBare : InodeContent → Type 0
IsBare (Bytes bytes) = Unit {0}
IsBare (Records records) = (n : Name) → records n ≡ None

-- ---- what changes, by inode numbers

pub record Adds (old new : Inodes) (dir : ℕ) (name : Name) (object : Object) (inode : ℕ) : Type 0 where
  pub free : old inode ≡ None
  pub added : new inode ≡ Some (fresh_content object)
  pub others : (i : ℕ) → (i ≡ inode → ⊥)
      → HoldsChanged (put_record dir name (Some (inode, object_kind object)) i) (old i) (new i)

pub record Refills (old new : Inodes) (inode : ℕ) (bytes : List ℕ) : Type 0 where
  pub now : new inode ≡ Some (Bytes bytes)
  pub others : (i : ℕ) → (i ≡ inode → ⊥) → new i ≡ old i

pub record Drops (old new : Inodes) (dir : ℕ) (name : Name) (inode : ℕ) : Type 0 where
  pub gone : new inode ≡ None
  pub others : (i : ℕ) → (i ≡ inode → ⊥) → HoldsChanged (put_record dir name None i) (old i) (new i)

abbrev pub Moves : Inodes → Inodes → ℕ → Name → ℕ → Name → Link → Type 0
Moves old new from from_name to to_name link =
    (i : ℕ) → HoldsChanged (move_record from from_name to to_name (Some link) i) (old i) (new i)

-- the same, where the record at `to` was another inode's, which is gone
pub record MovesOnto (old new : Inodes) (from : ℕ) (from_name : Name) (to : ℕ) (to_name : Name) (link : Link)
    (inode : ℕ) : Type 0 where
  pub gone : new inode ≡ None
  pub others : (i : ℕ) → (i ≡ inode → ⊥)
      → HoldsChanged (move_record from from_name to to_name (Some link) i) (old i) (new i)

-- ---- what calls do, at paths

pub record Creates (old new : Inodes) (dir : Path) (name : Name) (object : Object) (inode : ℕ) : Type 0 where
  pub parent : HasRecords old dir
  pub absent : parent.records name ≡ None
  pub adds : Adds old new parent.inode name object inode

pub record Rewrites (old new : Inodes) (path : Path) (bytes : List ℕ) : Type 0 where
  pub inode : ℕ
  pub is_reached : reached old path ≡ Some inode
  pub held : List ℕ
  pub was : old inode ≡ Some (Bytes held)
  pub refills : Refills old new inode bytes

pub record Removes (old new : Inodes) (dir : Path) (name : Name) : Type 0 where
  pub parent : HasRecords old dir
  pub link : Link
  pub is_there : parent.records name ≡ Some link
  pub held : InodeContent
  pub was : old link.0 ≡ Some held
  pub bare : IsBare held
  pub drops : Drops old new parent.inode name link.0

pub record Renames (old new : Inodes) (from_dir : Path) (from_name : Name) (to_dir : Path)
    (to_name : Name) : Type 0 where
  pub from : HasRecords old from_dir
  pub to : HasRecords old to_dir
  pub link : Link
  pub is_there : from.records from_name ≡ Some link
  pub absent : to.records to_name ≡ None
  pub outside : is_within (reverse (from_name ∷ from_dir)) (reverse (to_name ∷ to_dir)) ≡ false
  pub moves : Moves old new from.inode from_name to.inode to_name link

pub record Replaces (old new : Inodes) (from_dir : Path) (from_name : Name) (to_dir : Path)
    (to_name : Name) : Type 0 where
  pub from : HasRecords old from_dir
  pub to : HasRecords old to_dir
  pub link : Link
  pub is_there : from.records from_name ≡ Some link
  pub target : Link
  pub was_there : to.records to_name ≡ Some target
  pub held : InodeContent
  pub was : old target.0 ≡ Some held
  pub bare : IsBare held
  pub outside : is_within (reverse (from_name ∷ from_dir)) (reverse (to_name ∷ to_dir)) ≡ false
  pub moves : MovesOnto old new from.inode from_name to.inode to_name link target.0
