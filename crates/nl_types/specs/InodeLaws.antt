-- What inodes and trees have to do with one another.
use Rattle.std.specs.Prelude.{◌≡◌, ◌⊎◌, ℕ, ◌<◌, ◌≤◌, ◌+◌, ◌-◌, true, IsTrue, List, [], ◌∷◌, ◌++◌, map, length, reverse, is_some, Option, Some, None, Ok}
use Rattle.std.specs.Option.{option_and_then, ok_or}
use Rattle.nl_types.specs.declared.reply.Object.{Object}
use Rattle.nl_types.specs.declared.reply.Object.TheVariants.{File}
use Rattle.nl_types.specs.declared.error.VolError.TheVariants.{NotFound}
use Rattle.nl_types.specs.declared.kind.Kind.{Kind}
use Rattle.nl_types.specs.declared.kind.Kind.TheVariants as kind
use Rattle.nl_types.specs.Plain.Limits.{file_limit, path_limit, root_inode, first_inode, last_inode}
use Rattle.nl_types.specs.Plain.Paths.{Name, Path, is_name}
use Rattle.nl_types.specs.Plain.Calls.{and_then, walk, object_at}
use Rattle.nl_types.specs.Plain.Trees.{Tree, IsTree, root_alone, lookup, insert, remove, move_subtree, children}
use Rattle.nl_types.specs.Inodes.{Link, InodeContent, Bytes, Records, Inodes, MeansTree, found_object, reached}
use Rattle.nl_types.specs.InodeChanges.{HasRecords, ListsRecords, Creates, Rewrites, Removes, Renames, Replaces}
use Rattle.nl_types.specs.Resolving.{resolve, record_in, as_dir, object_in}

-- ---- changes of inodes, and of the tree and the number of its paths

-- the inodes stand for the tree, which has so many paths
pub record MeansPaths (inodes : Inodes) (tree : Tree) (paths : ℕ) : Type 0 where
  pub means : MeansTree inodes tree
  pub count : length tree ≡ paths

-- a new inode with its record is a new path
abbrev pub CreatesInsert : Type 0
CreatesInsert =
    (old new : Inodes) (tree : Tree) (dir : Path) (name : Name) (object : Object) (inode : ℕ)
    → MeansTree old tree → Creates old new dir name object inode
    → MeansPaths new (insert tree (reverse (name ∷ dir)) object) (length tree + 1)

-- other bytes in a file's inode are other bytes at its path
abbrev pub RewritesInsert : Type 0
RewritesInsert =
    (old new : Inodes) (tree : Tree) (path : Path) (bytes : List ℕ)
    → MeansTree old tree → Rewrites old new path bytes
    → MeansPaths new (insert tree (reverse path) (File bytes)) (length tree)

-- a removed inode with its record is a removed path
abbrev pub RemovesRemove : Type 0
RemovesRemove =
    (old new : Inodes) (tree : Tree) (dir : Path) (name : Name)
    → MeansTree old tree → Removes old new dir name
    → MeansPaths new (remove tree (reverse (name ∷ dir))) (length tree - 1)

-- the tree with one name in a directory moved to another name
abbrev pub renamed : Tree → Path → Name → Path → Name → Tree
renamed tree from_dir from_name to_dir to_name =
    move_subtree tree (reverse (from_name ∷ from_dir)) (reverse (to_name ∷ to_dir))

-- a rename of a record is a rename of paths
abbrev pub RenamesMove : Type 0
RenamesMove =
    (old new : Inodes) (tree : Tree) (from_dir : Path) (from_name : Name) (to_dir : Path) (to_name : Name)
    → MeansTree old tree → Renames old new from_dir from_name to_dir to_name
    → MeansPaths new (renamed tree from_dir from_name to_dir to_name) (length tree)

-- so it is where it takes the place of a file or an empty directory
abbrev pub ReplacesMove : Type 0
ReplacesMove =
    (old new : Inodes) (tree : Tree) (from_dir : Path) (from_name : Name) (to_dir : Path) (to_name : Name)
    → MeansTree old tree → Replaces old new from_dir from_name to_dir to_name
    → MeansPaths new (renamed tree from_dir from_name to_dir to_name) (length tree - 1)

-- ---- what a tree has, by its inodes

-- a record, as a listing shows it
abbrev pub with_kind : Name × Link → Name × Kind
with_kind r = (r.0, r.1.1)

-- a directory's names in the tree are its records, which ascend
abbrev pub ChildrenAreRecords : Type 0
ChildrenAreRecords =
    (inodes : Inodes) (tree : Tree) (dir : Path) (listed : List (Name × Link))
    → MeansTree inodes tree → (d : HasRecords inodes dir) → ListsRecords d.records listed
    → children tree (reverse dir) ≡ map with_kind listed

-- where every inode number is in use, the tree has more paths than it may have beside the root
abbrev pub FullVolumesAreTooBig : Type 0
FullVolumesAreTooBig =
    (inodes : Inodes) (tree : Tree) → MeansTree inodes tree
    → ((i : ℕ) → first_inode ≤ i → i ≤ last_inode → is_some (inodes i) ≡ true)
    → path_limit < length tree

-- a walk by directories finds what the tree has
abbrev pub WalksFind : Type 0
WalksFind =
    (inodes : Inodes) (tree : Tree) → MeansTree inodes tree
    → (path : Path) → found_object inodes path ≡ lookup tree (reverse path)

-- the walk over inodes to a path finds what the tree has there, or is refused as the tree refuses
abbrev pub ObjectsByInodes : Type 0
ObjectsByInodes =
    (inodes : Inodes) (tree : Tree) → MeansTree inodes tree
    → (path : Path)
    → object_at tree path ≡ and_then (resolve inodes path) (λ at. ok_or (object_in inodes at) NotFound)

-- a path is walked to where the walk over inodes comes to its directory
abbrev pub ParentsByInodes : Type 0
ParentsByInodes =
    (inodes : Inodes) (tree : Tree) → MeansTree inodes tree
    → (dir : Path) (name : Name) → walk tree (dir ++ name ∷ []) ≡ and_then (resolve inodes dir) as_dir

-- there the tree has what the record says
abbrev pub ChildrenByRecords : Type 0
ChildrenByRecords =
    (inodes : Inodes) (tree : Tree) → MeansTree inodes tree
    → (dir : Path) (name : Name) (i : ℕ) → resolve inodes dir ≡ Ok (i, kind.Directory)
    → lookup tree (dir ++ name ∷ []) ≡ option_and_then (object_in inodes) (record_in (inodes i) name)

-- a walk that comes to a directory comes to an inode with records
abbrev pub DirectoriesHoldRecords : Type 0
DirectoriesHoldRecords =
    (inodes : Inodes) (tree : Tree) → MeansTree inodes tree
    → (dir : Path) (i : ℕ) → resolve inodes dir ≡ Ok (i, kind.Directory)
    → (h : HasRecords inodes (reverse dir)) × (h.inode ≡ i)

-- and one that comes to a file comes to one with bytes
abbrev pub FilesHoldBytes : Type 0
FilesHoldBytes =
    (inodes : Inodes) (tree : Tree) → MeansTree inodes tree
    → (path : Path) (i : ℕ) → resolve inodes path ≡ Ok (i, kind.File)
    → (reached inodes (reverse path) ≡ Some i) × (bytes : List ℕ) × (inodes i ≡ Some (Bytes bytes))

-- one inode alone, an empty directory, stands for the root alone
abbrev pub NewInodesMeanTheRoot : Type 0
NewInodesMeanTheRoot =
    (inodes : Inodes) (records : Name → Option Link)
    → inodes root_inode ≡ Some (Records records) → ((n : Name) → records n ≡ None)
    → ((i : ℕ) → (i ≡ root_inode → ⊥) → inodes i ≡ None)
    → MeansTree inodes root_alone

-- inodes stand for one tree at most
abbrev pub InodesMeanOneTree : Type 0
InodesMeanOneTree =
    (inodes : Inodes) (tree other : Tree) → MeansTree inodes tree → MeansTree inodes other → tree ≡ other

-- ---- limits

-- the numbers, names and sizes that inodes may have
pub record AreWithinLimits (inodes : Inodes) : Type 0 where
  pub inode_numbers : (i : ℕ) (held : InodeContent) → inodes i ≡ Some held
      → (i ≡ root_inode) ⊎ ((first_inode ≤ i) × (i ≤ last_inode))
  pub names : (i : ℕ) (records : Name → Option Link) (n : Name) (link : Link)
      → inodes i ≡ Some (Records records) → records n ≡ Some link → IsTrue (is_name n)
  pub sizes : (i : ℕ) (bytes : List ℕ) → inodes i ≡ Some (Bytes bytes) → length bytes ≤ file_limit

-- inodes within the limits stand for a tree within the limits
abbrev pub LimitedInodesMeanTrees : Type 0
LimitedInodesMeanTrees =
    (inodes : Inodes) (tree : Tree) → MeansTree inodes tree → AreWithinLimits inodes → IsTree tree
