-- The tree that what inodes hold stands for.
use Rattle.std.specs.Prelude.{◌≡◌, ℕ, ◌+◌, length, Ok}
use Rattle.nl_types.specs.Plain.Trees.{Tree}
use Rattle.nl_types.specs.Inodes.{MeansTree}
use Rattle.nl_types.specs.Plain.Calls.{Changed}
use Rattle.nl_types.specs.declared.reply.Answer.{Answer}
use Rattle.nl_tree.specs.Held.{Holding, inodes_of_holding}

-- it has so many paths beside the root
pub record StandsForTree (holding : Holding) (tree : Tree) (names : ℕ) : Type 0 where
  pub means : MeansTree (inodes_of_holding holding) tree
  pub count : length tree ≡ names + 1

-- the call answers so, and leaves a tree that what is held then stands for
pub record MakesTree (called : Changed) (answer : Answer) (holding : Holding) (names : ℕ) : Type 0 where
  pub tree : Tree
  pub called_is : called ≡ Ok (answer, tree)
  pub stands : StandsForTree holding tree names
