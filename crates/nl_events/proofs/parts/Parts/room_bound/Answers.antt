use Rattle.std.proofs.Common.{subst}
use Rattle.nl_commit.specs.Layout.{IsPen, Layout}
use Rattle.nl_files.specs.Bounds.{most_births}
use Rattle.nl_tree.specs.Weights.{IsNoLess}
use Rattle.nl_events.proofs.Rooms.{bound-holds}
use Rattle.nl_events.proofs.parts.Parts.room_bound.Goals as goal

pub returns : goal.returns
returns g c =
    bound-holds c.settlings_are_few.ensures c.args.self.now c.room_bound.result
    (subst IsPen c.self.view_is c.self.invariant.pen)
    (subst (λ (l : Layout). IsNoLess (most_births l.lists.current.became) c.room_bound.result) c.self.view_is
    c.room_bound.ensures)
