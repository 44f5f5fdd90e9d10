-- Which inodes and blocks a change of the current tree changes.
use Rattle.nl_types.specs.Blocks.Roots.{Pages}
use Rattle.nl_types.specs.declared.event.Change.{Change}
use Rattle.nl_layout.specs.Root.{root_of}
use Rattle.nl_tree.specs.Became.{holding_over}
use Rattle.nl_tree.specs.Changing.{HasChangedHolding}
use Rattle.nl_tree.specs.Held.{Holding}
use Rattle.nl_files.specs.CheckpointTrees.{HoldsTree}
use Rattle.nl_commit.specs.Volume.{Lists, latest_root}

-- what the inodes of the current tree hold changes as the call says
pub record HasChanged (pages : Pages) (change : Change) (old new : Lists) : Type 0 where
  pub base : Holding
  pub holds : HoldsTree pages (root_of (latest_root old)) base
  pub changed : HasChangedHolding change (holding_over old.current.became base)
      (holding_over new.current.became base)
