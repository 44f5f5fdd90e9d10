-- The changes of blocks that make what an inode became of the checkpoint's one.
use Rattle.std.specs.Prelude.{◌≡◌, ℕ, zero, suc, ◌+◌, ◌-◌, ◌/◌, ◌≤◌, nat_lt, cond, List, [], ◌∷◌, ◌++◌, length, Option, None, Some}
use Rattle.nl_types.specs.Blocks.Roots.{Blocks}
use Rattle.nl_layout.specs.declared.inode.Inode.{Inode}
use Rattle.nl_layout.specs.declared.root.Root.{Root}
use Rattle.nl_layout.specs.declared.inode.InodeKind.{InodeKind}
use Rattle.nl_layout.specs.declared.inode.InodeKind.TheVariants.{File, Directory, InodeFile}
use Rattle.nl_blocktree.specs.declared.change.BlockChange.{BlockChange}
use Rattle.nl_blocktree.specs.Changed.{blocks_with}
use Rattle.nl_tree.specs.Held.{Held}
use Rattle.nl_tree.specs.Became.{Became, over_became}
use Rattle.nl_files.specs.CheckpointRoots.{StandsAs}
use Rattle.nl_files.specs.declared.plan.Shape.{Shape}
use Rattle.nl_files.specs.declared.plan.Plan.{Plan}

-- ---- the checkpoint's inode

-- its size in bytes
abbrev pub inode_size : Option Inode → ℕ
inode_size None = 0
inode_size (Some inode) = inode.size

-- how many blocks it may have
abbrev pub inode_block_count : Option Inode → ℕ
inode_block_count old = (inode_size old + 1023) / 1024

-- the blocks of the inode hold this, and no block stands past its size
pub record IsBase (blocks : Blocks) (old : Option Inode) (base : Option Held) : Type 0 where
  pub none : old ≡ None → base ≡ None
  pub some : (inode : Inode) → old ≡ Some inode → StandsAs blocks inode.kind inode.size base
  pub ends : (b : ℕ) → inode_block_count old ≤ b → blocks b ≡ None

-- ---- changes of blocks

-- so many blocks from one on go
abbrev pub removals : ℕ → ℕ → List BlockChange
removals first zero = []
removals first (suc n) = record { index = first; page = None } ∷ removals (first + 1) n

-- pages stand one behind the other
abbrev pub placed : ℕ → List (List ℕ) → List BlockChange
placed first [] = []
placed first (page ∷ pages) = record { index = first; page = Some page } ∷ placed (first + 1) pages

-- the lesser of two
abbrev pub lesser_of : ℕ → ℕ → ℕ
lesser_of i count = cond (nat_lt i count) i count

-- from where blocks still go, behind a page
abbrev pub cursor_after : ℕ → ℕ → ℕ → ℕ
cursor_after next count i = cond (nat_lt i next) next (cond (nat_lt i count) (i + 1) i)

-- the changes of a file's blocks: its pages, and all blocks from `next` up to `count` that have no page go
abbrev pub merged : ℕ → ℕ → List (ℕ × List ℕ) → List BlockChange
merged next count [] = removals next (count - next)
merged next count (e ∷ es) =
    removals next (lesser_of e.0 count - next)
    ++ record { index = e.0; page = Some e.1 } ∷ merged (cursor_after next count e.0) count es

-- the changes of a directory's blocks
abbrev pub packed_over : ℕ → List (List ℕ) → List BlockChange
packed_over count pages = placed 0 pages ++ removals (length pages) (count - length pages)

-- which blocks of an inode of a kind show in a file: those below this index
abbrev pub cut_of : InodeKind → ℕ → ℕ
cut_of File cut = cut
cut_of Directory cut = 0
cut_of InodeFile cut = 0

-- the cut that counts: only a file of the checkpoint shows below it
abbrev pub file_cut : Option Inode → ℕ → ℕ
file_cut None cut = 0
file_cut (Some inode) cut = cut_of inode.kind cut

-- where a block changes
abbrev pub index_of : BlockChange → ℕ
index_of c = c.index

-- ---- what they mean

-- the blocks are those of an inode of the shape, or there are none where there is no inode
abbrev pub StandsShaped : Blocks → Option Shape → Option Held → Type 0
StandsShaped blocks None held = (held ≡ None) × ((b : ℕ) → blocks b ≡ None)
StandsShaped blocks (Some shape) held = StandsAs blocks shape.kind shape.size held

-- the inode of a shape, with its root
abbrev pub shaped : Option Shape → Root → Option Inode
shaped None root = None
shaped (Some shape) root = Some (record { kind = shape.kind; root = root; size = shape.size })

-- the plan makes of what the checkpoint has what the inode became
abbrev pub IsPlanned : Option Inode → Became → Plan → Type 0
IsPlanned old became plan = (blocks : Blocks) (base : Option Held) → IsBase blocks old base →
    StandsShaped (blocks_with plan.changes.items blocks) plan.shape (over_became became base)
