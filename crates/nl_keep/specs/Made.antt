-- What file calls make of a world, and what they cost.
use Rattle.std.specs.Prelude.{◌≡◌, ℕ, ◌+◌, min, List, [], ◌∷◌, length, Ok}
use Rattle.nl_types.specs.declared.event.Change.{Change}
use Rattle.nl_types.specs.declared.event.Change.TheVariants.{Write}
use Rattle.nl_types.specs.Plain.Calls.{change}
use Rattle.nl_types.specs.declared.reply.Answer.{Answer}
use Rattle.nl_types.specs.Plain.Trees.{Tree}
use Rattle.nl_types.specs.Plain.Worlds.{World}
use Rattle.nl_folders.specs.Plans.{AreWhereTheyDiffer, PlanKeepsWhatMoves, tree_after_all}
use Rattle.nl_keep.specs.Stored.{ChangesTreeAlone}

-- ---- calls on a world

-- the call is done, and changes the current tree alone
pub record DoesCall (call : Change) (old new : World) : Type 0 where
  pub answer : Answer
  pub done : change old.tree call ≡ Ok (answer, new.tree)
  pub alone : ChangesTreeAlone old new

-- calls are done in order
pub record DoesCalls (calls : List Change) (old new : World) : Type 0 where
  pub done : tree_after_all old.tree calls ≡ Ok new.tree
  pub alone : ChangesTreeAlone old new

-- ---- what they cost

-- how many bytes are to be written
abbrev pub bytes_of : Change → ℕ
bytes_of (Write path offset bytes) = length bytes
bytes_of _ = 0

abbrev pub bytes_of_all : List Change → ℕ
bytes_of_all [] = 0
bytes_of_all (call ∷ calls) = bytes_of call + bytes_of_all calls

-- a count is told up to 2^64 - 1
abbrev pub told : ℕ → ℕ
told count = min count 18446744073709551615

-- Calls make the one tree the other, and each is on a path at which these differ. What has moved is renamed, and
-- no other call writes it. There are `count` of them, and they write so many bytes.
pub record AreMadeBy (earlier wanted : Tree) (count written : ℕ) : Type 0 where
  pub calls : List Change
  pub make : tree_after_all earlier calls ≡ Ok wanted
  pub differ : AreWhereTheyDiffer earlier wanted calls
  pub keep : PlanKeepsWhatMoves wanted calls
  pub counted : count ≡ told (length calls)
  pub bytes : written ≡ told (bytes_of_all calls)
