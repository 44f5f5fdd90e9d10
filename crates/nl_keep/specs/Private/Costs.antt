-- What a plan's calls have made so far, and what they cost.
use Rattle.std.specs.Prelude.{◌≡◌, ◌+◌, List, length, Ok}
use Rattle.nl_types.specs.declared.event.Change.{Change}
use Rattle.nl_types.specs.Plain.Trees.{Tree}
use Rattle.nl_folders.specs.Plans.{AreWhereTheyDiffer, KeepMovedBy, PlanKeepsWhatMoves, Progress, Reached, tree_after_all}
use Rattle.nl_keep.specs.declared.making.Cost.{Cost}
use Rattle.nl_keep.specs.Made.{DoesCalls, bytes_of_all, told}
use Rattle.nl_keep.specs.Volumes.{LeadsTo, Meaning}

abbrev pub cost_of : List Change → Cost
cost_of calls = record { calls = told (length calls); bytes = told (bytes_of_all calls) }

-- what a cost comes to with more calls
abbrev pub with_more : Cost → List Change → Cost
with_more cost calls = record {
  calls = told (cost.calls + length calls);
  bytes = told (cost.bytes + bytes_of_all calls);
}

-- calls that cost so much have made the wanted tree, beside each world that was meant
pub record IsMade (present wanted : Tree) (cost : Cost) (Old New : Meaning) : Type 0 where
  pub calls : List Change
  pub make : tree_after_all present calls ≡ Ok wanted
  pub differ : AreWhereTheyDiffer present wanted calls
  pub keep : PlanKeepsWhatMoves wanted calls
  pub costs : cost ≡ cost_of calls
  pub leads : LeadsTo (DoesCalls calls) Old New

-- calls that cost so much have made a tree that the plan has come to
pub record IsMadeSoFar (present wanted : Tree) (plan : Progress) (cost : Cost) (Old New : Meaning) : Type 0 where
  pub from_present : plan.present ≡ present
  pub to_wanted : plan.wanted ≡ wanted
  pub calls : List Change
  pub tree : Tree
  pub make : tree_after_all present calls ≡ Ok tree
  pub reached : Reached plan tree
  pub differ : AreWhereTheyDiffer present wanted calls
  pub keep : KeepMovedBy plan.moved wanted calls
  pub costs : cost ≡ cost_of calls
  pub leads : LeadsTo (DoesCalls calls) Old New
