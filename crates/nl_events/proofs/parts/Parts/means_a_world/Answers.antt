use Rattle.std.proofs.Common.{subst}
use Rattle.nl_commit.specs.Layout.{IsPen}
use Rattle.nl_events.proofs.parts.Parts.means_a_world.Goals as goal

pub returns : goal.returns
returns g c = subst IsPen c.self.view_is c.self.invariant.pen
