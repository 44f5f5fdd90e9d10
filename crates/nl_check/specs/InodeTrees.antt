-- When inodes form a tree, in words of their records alone.
use Rattle.std.specs.Prelude.{◌≡◌, ◌≢◌, ℕ, zero, suc, ◌+◌, ◌<◌, cond, Option, Some}
use Rattle.std.specs.Option.{is_some}
use Rattle.nl_types.specs.declared.kind.Kind.{Kind}
use Rattle.nl_types.specs.Plain.Limits.{root_inode}
use Rattle.nl_types.specs.Plain.Paths.{Name, Path}
use Rattle.nl_types.specs.Plain.Trees.{Tree, object_kind}
use Rattle.nl_types.specs.Inodes.{Link, InodeContent, Records, Inodes, MeansTree, object_of, reached}
use Rattle.nl_types.specs.InodeLaws.{MeansPaths}

-- a record of directory d gives the name to an inode
pub record Names (inodes : Inodes) (d : ℕ) (name : Name) (link : Link) : Type 0 where
  pub records : Name → Option Link
  pub directory : inodes d ≡ Some (Records records)
  pub listed : records name ≡ Some link

-- an inode in use, of this kind
pub record IsUsedAs (inodes : Inodes) (i : ℕ) (kind : Kind) : Type 0 where
  pub content : InodeContent
  pub used : inodes i ≡ Some content
  pub kind_is : object_kind (object_of content) ≡ kind

-- The root's inode is a directory. Each record names another inode in use by its kind, and no other record
-- names that. Each inode in use is found by a walk from the root.
pub record FormTree (inodes : Inodes) : Type 0 where
  pub root : (records : Name → Option Link) × (inodes root_inode ≡ Some (Records records))
  pub used : (d : ℕ) (name : Name) (link : Link) → Names inodes d name link → IsUsedAs inodes link.0 link.1
  pub not_root : (d : ℕ) (name : Name) (link : Link) → Names inodes d name link → link.0 ≢ root_inode
  pub once : (d e : ℕ) (name other : Name) (one two : Link)
      → Names inodes d name one → Names inodes e other two → one.0 ≡ two.0 → (d ≡ e) × (name ≡ other)
  pub found : (i : ℕ) (content : InodeContent) → inodes i ≡ Some content
      → (p : Path) × (reached inodes p ≡ Some i)

-- how many of the inodes below a number are in use
abbrev pub used_below : Inodes → ℕ → ℕ
used_below inodes zero = 0
used_below inodes (suc n) = cond (is_some (inodes n)) 1 0 + used_below inodes n

-- no inode from a number on is in use
abbrev pub AreBelow : ℕ → Inodes → Type 0
AreBelow limit inodes = (i : ℕ) (content : InodeContent) → inodes i ≡ Some content → i < limit

-- ---- laws

-- inodes that form a tree stand for one, with as many paths
abbrev pub FormedTreesAreMeant : Type 0
FormedTreesAreMeant =
    (inodes : Inodes) (limit : ℕ) → AreBelow limit inodes → FormTree inodes
    → (tree : Tree) × MeansPaths inodes tree (used_below inodes limit)

-- and what stands for a tree forms one
abbrev pub MeantTreesAreFormed : Type 0
MeantTreesAreFormed = (inodes : Inodes) (tree : Tree) → MeansTree inodes tree → FormTree inodes
