use Rattle.nl_commit.specs.CleaningEvents.{kept_numbers}
use Rattle.nl_events.specs.Facts.CountedPens.{are-gone}
use Rattle.nl_events.proofs.removing.let_go_between.Goals as goal

pub returns : goal.returns
returns g c = λ old lost counted.
    let now = c.args.tables.now.lists in
    c.removed.ensures (kept_numbers old) counted
    (are-gone c.args.first c.args.last c.first_above-next.result old now lost c.first_above-next.ensures)
