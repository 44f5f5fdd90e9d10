use Rattle.std.proofs.Common.{rules}
use Rattle.std.proofs.lemmas.List.Sorted.{Contains-permutation, IsNonDecreasingBy-from_sort_by_key}
use Rattle.nl_check.specs.Private.Turns.{checkpoint_of}
use Rattle.nl_check.proofs.PeriodsBetween.{turn-below}
use Rattle.nl_check.proofs.turns.all_turns.Goals as goal

pub returns-clause-turns : goal.returns-clause-turns
returns-clause-turns g c = record {
  all = λ v turn there.
      Contains-permutation c.in_ok-turns.turns.items c.sort_unstable_by_key.new.self.items turn
      c.sort_unstable_by_key.ensures.permutation
      (c.in_ok-turns.ensures.all v turn
      (turn-below (g.V.VRead.periods c.args.store.now) c.args.count c.requires v turn there) there);
  rising =
      IsNonDecreasingBy-from_sort_by_key checkpoint_of _ c.sort_unstable_by_key.ensures.sorted
      (λ a r q k. search rules);
}
