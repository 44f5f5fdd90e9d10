-- What a volume's inodes hold, and the tree that they stand for. An upward path is the list of its names with
-- the last one first, so that the parent of `n ∷ p` is `p`.
use Rattle.std.specs.Prelude.{◌≡◌, ◌≤◌, ◌<◌, ℕ, IsTrue, IsSome, List, [], ◌∷◌, reverse, Option, Some, None}
use Rattle.std.specs.Option.{is_some, option_map, option_and_then, option_zip}
use Rattle.std.specs.FinMap.{is_sorted}
use Rattle.nl_types.specs.declared.kind.Kind.{Kind}
use Rattle.nl_types.specs.declared.reply.Object.{Object}
use Rattle.nl_types.specs.declared.reply.Object.TheVariants.{Dir, File}
use Rattle.nl_types.specs.Plain.Limits.{last_inode, root_inode}
use Rattle.nl_types.specs.Blocks.PartialMaps.{Partial}
use Rattle.nl_types.specs.Plain.Paths.{Name, Path, path_cmp}
use Rattle.nl_types.specs.Plain.Trees.{Tree, lookup, object_kind}

-- what a record says of a name: the number of its inode, and what that is
abbrev pub Link : Type 0
Link = ℕ × Kind

-- what an inode in use holds: the bytes of a file, or by name the records of a directory
pub data InodeContent : Type 0 where
  Bytes : List ℕ → InodeContent
  Records : (Name → Option Link) → InodeContent

abbrev pub Inodes : Type 0
Inodes = ℕ → Option InodeContent

-- ---- free numbers

-- all numbers from one up to, and without, another are in use
abbrev pub AreInUseFrom : {X : Type 0} → Partial X → (from end : ℕ) → Type 0
AreInUseFrom inodes from end = (n : ℕ) → from ≤ n → n < end → IsSome (inodes n)

-- the lowest number from one on that is free
pub record IsLowestFreeInode {X : Type 0} (inodes : Partial X) (from n : ℕ) : Type 0 where
  pub first : from ≤ n
  pub last : n ≤ last_inode
  pub free : inodes n ≡ None
  pub lowest : AreInUseFrom inodes from n

-- ---- a walk by directories

-- the inode of a record, in what an inode holds
abbrev pub inode_named : Name → InodeContent → Option ℕ
inode_named n (Bytes bytes) = None
inode_named n (Records records) = option_map (λ (r : Link). r.0) (records n)

-- the inode that a walk from the root finds
unfoldable pub reached : Inodes → Path → Option ℕ
reached inodes [] = Some root_inode
reached inodes (n ∷ p) = option_and_then (λ c. inode_named n c) (option_and_then inodes (reached inodes p))

abbrev pub object_of : InodeContent → Object
object_of (Bytes bytes) = File bytes
object_of (Records records) = Dir

-- what a walk finds
abbrev pub found_object : Inodes → Path → Option Object
found_object inodes p = option_map object_of (option_and_then inodes (reached inodes p))

-- ---- the tree that they stand for

-- a tree as a function from upward paths
abbrev pub upward : Tree → Path → Option Object
upward tree p = lookup tree (reverse p)

-- the root is a directory, and so is the parent of every other path that is there
pub record IsRooted (tree : Path → Option Object) : Type 0 where
  pub root : tree [] ≡ Some Dir
  pub parents : (n : Name) (p : Path) (x : Object) → tree (n ∷ p) ≡ Some x → tree p ≡ Some Dir

-- the record that a path would have in its parent
abbrev pub record_of : (Path → Option Object) → (Path → Option ℕ) → Path → Option Link
record_of tree inode_of p = option_zip (inode_of p) (option_map object_kind (tree p))

-- the paths of the tree and the inodes in use are paired one to one, the root with its own number, such that
-- a directory's inode has its children's names as records and a file's inode has its bytes
pub record Pairs (inodes : Inodes) (tree : Path → Option Object) (inode_of : Path → Option ℕ) : Type 0 where
  pub root : inode_of [] ≡ Some root_inode
  pub paths : (p : Path) → is_some (inode_of p) ≡ is_some (tree p)
  pub once : (p q : Path) (i : ℕ) → inode_of p ≡ Some i → inode_of q ≡ Some i → p ≡ q
  pub all : (i : ℕ) (c : InodeContent) → inodes i ≡ Some c → (p : Path) × (inode_of p ≡ Some i)
  pub directory : (p : Path) (i : ℕ) → tree p ≡ Some Dir → inode_of p ≡ Some i
      → (records : Name → Option Link) × (inodes i ≡ Some (Records records))
      × ((n : Name) → records n ≡ record_of tree inode_of (n ∷ p))
  pub file : (p : Path) (i : ℕ) (bytes : List ℕ) → tree p ≡ Some (File bytes) → inode_of p ≡ Some i
      → inodes i ≡ Some (Bytes bytes)

-- The inodes stand for the tree: a map in order, rooted, and paired with them. Limits are not their concern.
pub record MeansTree (inodes : Inodes) (tree : Tree) : Type 0 where
  pub inode_of : Path → Option ℕ
  pub ordered : IsTrue (is_sorted path_cmp tree)
  pub rooted : IsRooted (upward tree)
  pub pairs : Pairs inodes (upward tree) inode_of
