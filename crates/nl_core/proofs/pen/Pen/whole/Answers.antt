use Rattle.std.proofs.Common.{subst, sym}
use Rattle.nl_commit.specs.Commits.{IsShownState}
use Rattle.nl_events.specs.Facts.States.{pen-state}
use Rattle.nl_core.proofs.pen.Pen.whole.Goals as goal

pub returns-clause-begins : goal.returns-clause-begins
returns-clause-begins g c = (
  subst IsShownState (sym c.in_ok-all.ensures.state)
      (pen-state c.self.inside.parts c.means_a_world.ensures),
  tt,
)
