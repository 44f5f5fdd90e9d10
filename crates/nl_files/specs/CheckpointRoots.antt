-- What a checkpoint's root stands for, and the roots of its files.
use Rattle.std.specs.Prelude.{◌≡◌, ℕ, ◌==◌, if◌then◌else◌, List, Option, None, Some}
use Rattle.nl_types.specs.Plain.Limits.{inode_file_number}
use Rattle.nl_types.specs.Blocks.Entries.{Content}
use Rattle.nl_types.specs.Blocks.Roots.{Blocks, Pages, Root, Empty, page_at, pages_of}
use Rattle.nl_types.specs.Blocks.RootChanges.{IsSound}
use Rattle.nl_layout.specs.Root.{root_of}
use Rattle.nl_layout.specs.declared.inode.Inode.{Inode}
use Rattle.nl_layout.specs.declared.inode.InodeKind.{InodeKind}
use Rattle.nl_layout.specs.declared.inode.InodeKind.TheVariants.{File, Directory, InodeFile}
use Rattle.nl_blocktree.specs.Numbering.{IsLive}
use Rattle.nl_ifile.specs.Inodes.{IsInodeFile, inode_at}
use Rattle.nl_dirs.specs.declared.record.Record.{Record}
use Rattle.nl_dirs.specs.Listings.{HoldsRecords}
use Rattle.nl_tree.specs.Held.{Held, Holding, IsHolding, Listed, Stored}

-- what blocks of a kind and a size hold
abbrev pub StandsAs : Blocks → InodeKind → ℕ → Option Held → Type 0
StandsAs blocks File size held = held ≡ Some (Stored size blocks)
StandsAs blocks Directory size held =
    (records : List Record) × HoldsRecords blocks size records × (held ≡ Some (Listed records))
StandsAs blocks InodeFile size held = ⊥

abbrev pub StandsFor : Pages → Option Inode → Option Held → Type 0
StandsFor pages None held = held ≡ None
StandsFor pages (Some inode) held = StandsAs (page_at pages (root_of inode.root)) inode.kind inode.size held

-- what a root of inodes stands for
abbrev pub Stores : Pages → Root → Holding → Type 0
Stores pages root holding = (i : ℕ) → StandsFor pages (inode_at pages root i) (holding i)

-- ---- roots

abbrev pub inode_root : Option Inode → Root
inode_root None = Empty
inode_root (Some inode) = root_of inode.root

-- the root of each file of a checkpoint: the file of inodes has number 6
abbrev pub roots_at : Pages → Root → ℕ → Root
roots_at pages root i = if i == inode_file_number then root else inode_root (inode_at pages root i)

-- a root whose numbers are all in use, none of them ended
pub record IsRootInUse (content : Content) (root : Root) : Type 0 where
  pub sound : IsSound (pages_of content) root
  pub live : IsLive content root

-- the file of inodes and all files of its inodes are sound
pub record IsTreeSound (pages : Pages) (root : Root) : Type 0 where
  pub inode_file : IsSound pages root
  pub inodes : IsInodeFile pages root
  pub each : (i : ℕ) → IsSound pages (inode_root (inode_at pages root i))

-- the latest checkpoint's root: its files are in use, and stand for what inodes may hold
pub record IsCheckpointRoot (content : Content) (root : Root) : Type 0 where
  pub inode_file : IsRootInUse content root
  pub inodes : IsInodeFile (pages_of content) root
  pub each : (i : ℕ) → IsRootInUse content (inode_root (inode_at (pages_of content) root i))
  pub holds : (holding : Holding) × Stores (pages_of content) root holding × IsHolding holding
