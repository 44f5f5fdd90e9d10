use Rattle.nl_keep_pen.proofs.LookedAt.{changes_there}
use Rattle.nl_keep_pen.proofs.opened.OpenedVolume.changes.Goals as goal

pub returns-clause-changes : goal.returns-clause-changes
returns-clause-changes c image of =
    changes_there c.pens_of_one_image_mean_one_world.ensures image c.args.self.now.volume.pen of c.args.path.now
    c.args.numbers.now c.in_ok-changes.changes c.in_ok-changes.ensures.changes
