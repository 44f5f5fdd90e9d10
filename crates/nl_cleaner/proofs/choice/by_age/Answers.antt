use Rattle.std.proofs.Common.{rules, tests}
use Rattle.std.proofs.lemmas.List.Sorted.{IsNonDecreasingBy-from_sort_by_key, answers_always}
use Rattle.nl_cleaner.specs.Private.Choice.{stamp_of}
use Rattle.nl_cleaner.proofs.Ages.{in-order}
use Rattle.nl_cleaner.proofs.choice.by_age.Goals as goal

pub returns-clause-order : goal.returns-clause-order
returns-clause-order c =
    in-order c.args.found.items c.sort_by_key.new.self.items c.requires c.sort_by_key.ensures.permutation
    (IsNonDecreasingBy-from_sort_by_key stamp_of c.sort_by_key.new.self.items
    c.in_ok-sort_by_key.ensures.sorted
    (λ a r f k. search (rules, tests)))
    (c.sort_by_key.ensures.stable stamp_of (answers_always _ _ _ (λ f a r g h. search rules)))
