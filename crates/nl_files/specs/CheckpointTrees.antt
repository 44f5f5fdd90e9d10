-- The tree of a checkpoint, as the reading of its inodes finds it.
use Rattle.std.specs.Prelude.{Option, None, Some}
use Rattle.nl_types.specs.Blocks.Roots.{Pages, Root}
use Rattle.nl_tree.specs.Held.{Held, Holding, IsHolding, Listed, Stored}
use Rattle.nl_files.specs.CheckpointRoots.{Stores}

-- a root stands for what inodes may hold
pub record HoldsTree (pages : Pages) (root : Root) (holding : Holding) : Type 0 where
  pub stores : Stores pages root holding
  pub sound : IsHolding holding

-- what isn't a directory
abbrev pub IsNoDirectory : Option Held → Type 0
IsNoDirectory None = Unit {0}
IsNoDirectory (Some (Stored size blocks)) = Unit {0}
IsNoDirectory (Some (Listed records)) = ⊥

-- what isn't a file
abbrev pub IsNoFile : Option Held → Type 0
IsNoFile None = Unit {0}
IsNoFile (Some (Stored size blocks)) = ⊥
IsNoFile (Some (Listed records)) = Unit {0}
