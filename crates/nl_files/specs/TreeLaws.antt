-- The current tree from one checkpoint to the next, and the first one.
use Rattle.std.specs.Prelude.{ℕ, []}
use Rattle.nl_types.specs.Blocks.Lifetimes.{IsLedger, Ledger, blank}
use Rattle.nl_types.specs.Plain.Trees.{Tree, root_alone}
use Rattle.nl_types.specs.Blocks.Roots.{Pages, Root, Empty}
use Rattle.nl_vstore.specs.Batches.{Changes, CanBeTaken}
use Rattle.nl_blocktree.specs.Checkpoints.{ledger_pages}
use Rattle.nl_tree.specs.Held.{Holding, IsHolding}
use Rattle.nl_tree.specs.Became.{Current, holding_over}
use Rattle.nl_tree.specs.CurrentTrees.{StandsOver}
use Rattle.nl_tree.specs.FirstTree.{first_tree, nothing_held}
use Rattle.nl_files.specs.CheckpointRoots.{IsCheckpointRoot}
use Rattle.nl_files.specs.Settles.{IsCurrent, Settles}
use Rattle.nl_files.specs.CheckpointTrees.{HoldsTree}
use Rattle.nl_files.specs.Laws.{IsLatest, ledger_with}

-- The current tree stands for the tree over the latest checkpoint of a ledger, which has this root and holds
-- this.
pub record StandsOverLatest (ledger : Ledger) (root : Root) (now : Current) (base : Holding)
    (tree : Tree) : Type 0 where
  pub is_ledger : IsLedger ledger
  pub latest : IsLatest ledger root base
  pub base_sound : IsHolding base
  pub stands : StandsOver now base tree

-- ---- the first one

-- the current tree of a new volume stands for the root alone, over a checkpoint without files
abbrev pub FirstTreesStand : Type 0
FirstTreesStand = StandsOverLatest blank Empty first_tree nothing_held root_alone

-- a root without blocks holds nothing
abbrev pub EmptyRootsHoldNothing : Type 0
EmptyRootsHoldNothing = (pages : Pages) → HoldsTree pages Empty nothing_held

-- ---- the next one

-- the checkpoint can be read, and the tree be settled over it
pub record CanBeSettled (ledger : Ledger) (root : Root) (now : Current) (base : Holding) : Type 0 where
  pub holds : HoldsTree (ledger_pages ledger) root base
  pub checkpoint : IsCheckpointRoot ledger.content root
  pub current : IsCurrent ledger.content root now.became base (holding_over now.became base)

abbrev pub TreesCanBeSettled : Type 0
TreesCanBeSettled =
    (ledger : Ledger) (root : Root) (now : Current) (base : Holding) (tree : Tree) →
    StandsOverLatest ledger root now base tree → CanBeSettled ledger root now base

-- once the batch is written nothing differs from the new checkpoint, and that stands for the same tree
abbrev pub SettledTreesGoOn : Type 0
SettledTreesGoOn =
    (room : ℕ) (ledger : Ledger) (root new : Root) (now : Current) (base : Holding) (tree : Tree)
    (batch : Changes) →
    StandsOverLatest ledger root now base tree →
    Settles ledger.content root new now.became (holding_over now.became base) batch
    → CanBeTaken room ledger.content batch →
    StandsOverLatest (ledger_with batch ledger) new (record now { became = [] })
    (holding_over now.became base) tree
