-- Checkpoints over pages that agree with their own where they reach.
use Rattle.std.specs.Prelude.{◌≡◌, ℕ}
use Rattle.nl_types.specs.Blocks.PartialMaps.{Keeps}
use Rattle.nl_types.specs.Blocks.Roots.{Pages, Root}
use Rattle.nl_blocktree.specs.Checkpoints.{AgreeWhere, numbers_of}
use Rattle.nl_tree.specs.Held.{Holding}
use Rattle.nl_files.specs.CheckpointTrees.{HoldsTree}
use Rattle.nl_files.specs.CheckpointRoots.{IsTreeSound, Stores, roots_at}

-- the pages agree at each number that the checkpoint's files reach
abbrev pub AgreeAtCheckpoint : Pages → Pages → Root → Type 0
AgreeAtCheckpoint pages more root = (i : ℕ) → AgreeWhere pages more (roots_at pages root i)

-- the checkpoint's files have the roots that they had, their places the same numbers, and it stands for the
-- same
pub record CheckpointStays (pages more : Pages) (root : Root) : Type 0 where
  pub roots : (i : ℕ) → roots_at more root i ≡ roots_at pages root i
  pub numbers : numbers_of more (roots_at more root) ≡ numbers_of pages (roots_at pages root)
  pub sound : IsTreeSound more root
  pub stores : (held : Holding) → Stores pages root held → Stores more root held

-- a checkpoint that holds a tree stays
abbrev pub CheckpointsStay : Type 0
CheckpointsStay = (pages more : Pages) (root : Root) (held : Holding) →
    IsTreeSound pages root → HoldsTree pages root held → AgreeAtCheckpoint pages more root →
    CheckpointStays pages more root

-- pages that keep all there were agree with them at every checkpoint
abbrev pub KeptPagesAgree : Type 0
KeptPagesAgree = (pages more : Pages) (root : Root) →
    IsTreeSound pages root → Keeps pages more → AgreeAtCheckpoint pages more root
