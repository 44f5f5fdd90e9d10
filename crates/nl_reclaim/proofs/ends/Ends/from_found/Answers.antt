use Rattle.std.proofs.Common.{rules}
use Rattle.std.proofs.lemmas.List.Sorted.{IsNonDecreasingBy-from_sort_by_key}
use Rattle.nl_reclaim.specs.EndLists.{end_of}
use Rattle.nl_reclaim.proofs.ends.Ends.from_found.Goals as goal

pub returns-clause-rising : goal.returns-clause-rising
returns-clause-rising c =
    IsNonDecreasingBy-from_sort_by_key end_of _ c.sort_unstable_by_key.ensures.sorted
    (λ a r q k. search rules)
