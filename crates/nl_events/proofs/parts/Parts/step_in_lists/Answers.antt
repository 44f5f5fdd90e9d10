use Rattle.std.proofs.Common.{ap, subst, sym, ◌∙◌}
use Rattle.nl_commit.specs.Layout.{IsPen, Layout}
use Rattle.nl_commit.specs.Notes.{known_commit}
use Rattle.nl_events.proofs.NotedEvents.{telling-none}
use Rattle.nl_events.proofs.parts.Parts.step_in_lists.Goals as goal

pub returns-in-None : goal.returns-in-None
returns-in-None g c =
    telling-none g.N.Notes.told c.args.self.now c.change_lists.new.self c.args.event.now
    c.change_lists.result
    (g.N.Notes.commits c.args.notes.now)
    (subst IsPen c.self.view_is c.self.invariant.pen) c.requires
    (ap (λ (l : Layout). known_commit l.lists c.args.event.now) (sym c.self.view_is)
    ∙ sym c.commit_before.ensures
    ∙ c.in-None.is)
    c.change_lists.ensures
