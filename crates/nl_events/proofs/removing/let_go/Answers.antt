use Rattle.nl_events.specs.Facts.CountedPens.{lost-between, lost-none}
use Rattle.nl_events.proofs.removing.let_go.Goals as goal

pub returns-in-Some : goal.returns-in-Some
returns-in-Some g c = λ old taken counted.
    c.let_go_between.ensures old
    (lost-between c.args.gone.now old c.args.tables.now.lists taken c.in-Some.span.0 c.in-Some.span.1
    c.requires.earlier.rising c.in-Some.ensures)
    counted

pub returns-in-None : goal.returns-in-None
returns-in-None g c = λ old taken counted.
    lost-none c.args.gone.now old c.args.tables.now.lists taken c.in-None.ensures
    (g.V.Vstore.store c.args.store.now) c.args.needed.now counted
