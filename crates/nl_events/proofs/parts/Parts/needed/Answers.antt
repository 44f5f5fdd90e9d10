use Rattle.std.proofs.Common.{ap, ◌∙◌}
use Rattle.nl_commit.specs.CleanerViews.{needed_told}
use Rattle.nl_commit.specs.CleaningEvents.{kept_numbers}
use Rattle.nl_commit.specs.Layout.{Layout}
use Rattle.nl_events.proofs.parts.Parts.needed.Goals as goal

pub returns : goal.returns
returns g c =
    c.get.ensures.needed (g.V.Vstore.store c.self.inside.store)
    (kept_numbers c.self.inside.tables.lists) c.self.invariant.counts
    ∙ ap (λ (l : Layout). needed_told l c.args.segment) c.self.view_is
