use Rattle.std.proofs.Common.{refl}
use Rattle.nl_types.specs.declared.error.VolError.TheVariants.{BadMount}
use Rattle.nl_commit.specs.Shown.{pages_shown}
use Rattle.nl_mounts.specs.Warming.Warms.{Nothing}
use Rattle.nl_mounts.proofs.Looking.{of_tree}
use Rattle.nl_mounts.proofs.PortPages.{puts_in, warms_in}
use Rattle.nl_mounts.proofs.port.warm_in.Goals as goal

pub returns-in-Some-clause-refused : goal.returns-in-Some-clause-refused
returns-in-Some-clause-refused c = of_tree _ c.args.tree c.in-Some.tree _ _ c.in-Some.is
    (λ t means. c.warm.ensures.refused means.held t (c.new.ensures means.held means.holds) means.means)

pub returns-in-Some-clause-warmed : goal.returns-in-Some-clause-warmed
returns-in-Some-clause-warmed c =
    warms_in (pages_shown c.args.state.now.tables) c.args.tree c.in-Some.tree c.args.path.now _ c.in-Some.is
    (λ held holds. c.new.ensures held holds)
    c.args.offset c.args.len c.args.cache.now c.warm.new.cache c.warm.result c.warm.ensures.warmed

pub returns-in-Some-clause-stored : goal.returns-in-Some-clause-stored
returns-in-Some-clause-stored c =
    puts_in (pages_shown c.args.state.now.tables) c.args.tree c.in-Some.tree c.args.path.now _ c.in-Some.is
    (λ held holds. c.new.ensures held holds)
    c.args.cache.now c.warm.new.cache c.warm.ensures.stored

pub returns-in-None-clause-warmed : goal.returns-in-None-clause-warmed
returns-in-None-clause-warmed c = Nothing BadMount refl refl
