use Rattle.std.proofs.Common.{sym, ◌∙◌}
use Rattle.nl_backups.proofs.Candidates.{some_go}
use Rattle.nl_backups.proofs.pruning.next_without.Goals as goal

pub returns-clause-has : goal.returns-clause-has
returns-clause-has c image of =
    rw c.from_vec.ensures
    (some_go c.args.moment c.args.numbers.now image c.in_ok-next.next.items
    (sym c.is_empty.ensures ∙ c.if-is_empty.false) (c.in_ok-next.ensures.forgets image of))
