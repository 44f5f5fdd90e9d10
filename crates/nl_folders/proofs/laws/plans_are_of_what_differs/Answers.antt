use Rattle.nl_folders.proofs.NeededCalls.{moved_is_kept}
use Rattle.nl_folders.proofs.PlanLaws.{one_tree_needs_no_call}
use Rattle.nl_folders.proofs.laws.plans_are_of_what_differs.Goals as goal
use Rattle.nl_folders.specs.Facts.CallLists.{calls_go_on}

pub returns : goal.returns
returns c = record {
  no_call = one_tree_needs_no_call;
  calls = calls_go_on;
  kept = moved_is_kept;
}
