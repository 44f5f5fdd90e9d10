-- What a checkpoint makes of the current tree.
use Rattle.std.specs.Prelude.{◌≡◌, ℕ, List, [], ◌∷◌, ◌++◌, map, Option}
use Rattle.std.specs.List.{AllPairs}
use Rattle.nl_types.specs.Plain.Limits.{inode_file_number}
use Rattle.nl_types.specs.Blocks.Entries.{Content}
use Rattle.nl_types.specs.Plain.NumberLists.{NoneTwice}
use Rattle.nl_types.specs.Blocks.Roots.{Root, pages_of}
use Rattle.nl_types.specs.Blocks.RootChanges.{IsSound}
use Rattle.nl_vstore.specs.Batches.{Changes}
use Rattle.nl_layout.specs.declared.inode.Inode.{Inode}
use Rattle.nl_blocktree.specs.declared.change.BlockChange.{BlockChange}
use Rattle.nl_blocktree.specs.Checkpoints.{ArePut, ComesBefore, FileChange, batch_after, inodes_of, no_changes, roots_after}
use Rattle.nl_blocktree.specs.Putting.{PutsAll, pages_after}
use Rattle.nl_ifile.specs.declared.change.InodeChange.{InodeChange}
use Rattle.nl_tree.specs.Held.{Held, Holding, IsHolding}
use Rattle.nl_tree.specs.Became.{Became, holding_over, over_became}
use Rattle.nl_files.specs.CheckpointRoots.{IsTreeSound, StandsFor, Stores, inode_root, roots_at}

-- The changes are of the latest checkpoint's tree, and make of it what inodes may hold.
pub record IsCurrent (content : Content) (root : Root) (became : List (ℕ × Became))
    (base held : Holding) : Type 0 where
  pub base_is : Stores (pages_of content) root base
  pub base_sound : IsHolding base
  pub sound : IsHolding held
  pub holds : held ≡ holding_over became base

-- ---- one inode

-- one inode is settled: changes of its blocks are in the batch, and the new inode stands for what the inode
-- became
pub record SettlesInode (content : Content) (i : ℕ) (old root : Root) (changes : List BlockChange)
    (new : Option Inode) (held : Option Held) (before after : Changes) : Type 0 where
  pub put : PutsAll content i old root changes before after
  pub is_root : inode_root new ≡ root
  pub sound : IsSound (pages_after content after) (inode_root new)
  pub stands : StandsFor (pages_after content after) new held

-- it is settled by some changes of its blocks
pub record IsInodeSettled (content : Content) (i : ℕ) (old : Root) (new : Option Inode) (held : Option Held)
    (before after : Changes) : Type 0 where
  pub changes : List BlockChange
  pub root : Root
  pub settled : SettlesInode content i old root changes new held before after

-- ---- all inodes

-- one inode that is settled: its file, what it is then, and what it became
pub record Settlement : Type 0 where
  pub file : FileChange
  pub inode : Option Inode
  pub became : Became

-- its file
abbrev pub settled_file : Settlement → FileChange
settled_file s = s.file

-- their files
abbrev pub settled_files : List Settlement → List FileChange
settled_files steps = map settled_file steps

-- as a change of an inode
abbrev pub settled_inode : Settlement → InodeChange
settled_inode s = record { number = s.file.inode; inode = s.inode }

-- as what became of an inode
abbrev pub settled_became : Settlement → ℕ × Became
settled_became s = (s.file.inode, s.became)

-- the inode is settled, in the batch so far
abbrev pub IsSettlement : Content → (ℕ → Root) → Holding → Changes → Settlement → Type 0
IsSettlement content roots base before s =
    SettlesInode content s.file.inode (roots s.file.inode) s.file.root s.file.changes s.inode
    (over_became s.became (base s.file.inode)) before s.file.batch

-- inodes are settled one after another
abbrev pub AreSettlements : Content → (ℕ → Root) → Holding → Changes → List Settlement → Type 0
AreSettlements content roots base before [] = Unit {0}
AreSettlements content roots base before (s ∷ steps) =
    IsSettlement content roots base before s × AreSettlements content roots base s.file.batch steps

-- inodes so far are in the batch and in the list, and with what is left they are all
pub record Settling (content : Content) (roots : ℕ → Root) (base : Holding) (before now : Changes)
    (inodes : List InodeChange) (left all : List (ℕ × Became)) : Type 0 where
  pub steps : List Settlement
  pub are : AreSettlements content roots base before steps
  pub now_is : now ≡ batch_after (settled_files steps) before
  pub inodes_are : inodes ≡ map settled_inode steps
  pub all_are : map settled_became steps ++ left ≡ all

-- these became the next to be settled: whatever is settled so far and is left behind them, they are settled
-- with it
abbrev pub SettlesMore : Content → Root → (old now : Changes) → (before after : List InodeChange)
    → List (ℕ × Became) → Type 0
SettlesMore content root old now before after more =
    (base : Holding) (start : Changes) (left all : List (ℕ × Became)) → Stores (pages_of content) root base
    → IsHolding base
    → Settling content (roots_at (pages_of content) root) base start old before (more ++ left) all
    → Settling content (roots_at (pages_of content) root) base start now after left all

-- ---- the checkpoint

-- The current tree is put into the batch, inode by inode, and the file of inodes last: the root that is
-- answered stands for what the current tree was.
pub record Settles (content : Content) (root new : Root) (became : List (ℕ × Became)) (held : Holding)
    (batch : Changes) : Type 0 where
  pub files : List FileChange
  pub inode_file : FileChange
  pub is_inode_file : inode_file.inode ≡ inode_file_number
  pub once : NoneTwice (inodes_of (files ++ inode_file ∷ []))
  pub in_order : AllPairs (ComesBefore inode_file_number) (inodes_of (files ++ inode_file ∷ []))
  pub became_are : inodes_of files ≡ map (λ (e : ℕ × Became). e.0) became
  pub put : ArePut content (roots_at (pages_of content) root) no_changes (files ++ inode_file ∷ [])
  pub batch_is : batch ≡ inode_file.batch
  pub root_is : new ≡ inode_file.root
  pub roots : (i : ℕ) → roots_after (files ++ inode_file ∷ []) (roots_at (pages_of content) root) i
      ≡ roots_at (pages_after content batch) new i
  pub sound : IsTreeSound (pages_after content batch) new
  pub stores : Stores (pages_after content batch) new held
