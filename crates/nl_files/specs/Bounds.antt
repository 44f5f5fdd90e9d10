-- How many blocks a checkpoint of the current tree writes at most.
use Rattle.std.specs.Prelude.{ℕ, ◌+◌, ◌≤◌, List, length}
use Rattle.nl_types.specs.Blocks.Entries.{Content}
use Rattle.nl_types.specs.Blocks.Roots.{Root}
use Rattle.nl_vstore.specs.Batches.{Changes}
use Rattle.nl_blocktree.specs.Bounds.{most_nodes}
use Rattle.nl_tree.specs.Became.{Became}
use Rattle.nl_tree.specs.Held.{Holding}
use Rattle.nl_files.specs.CheckpointRoots.{IsCheckpointRoot}
use Rattle.nl_files.specs.Settles.{IsCurrent, Settles}
use Rattle.nl_tree.specs.Weights.{total_weight}

-- the most blocks of the file of inodes, eight inodes in each
abbrev pub inode_block_limit : ℕ
inode_block_limit = 65536

-- what changed, and the nodes of the file of inodes
abbrev pub most_births : List (ℕ × Became) → ℕ
most_births became = total_weight became + most_nodes inode_block_limit

-- however the current tree is settled, no more is written
abbrev pub SettlingsAreFew : Type 0
SettlingsAreFew = (content : Content) (root new : Root) (became : List (ℕ × Became)) (base held : Holding)
    (batch : Changes)
    → IsCheckpointRoot content root → IsCurrent content root became base held
    → Settles content root new became held batch → length batch.births ≤ most_births became
