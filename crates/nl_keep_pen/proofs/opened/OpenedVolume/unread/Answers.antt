use Rattle.nl_keep_pen.proofs.LookedAt.{shows_there}
use Rattle.nl_keep_pen.proofs.opened.OpenedVolume.unread.Goals as goal

pub returns-clause-shows : goal.returns-clause-shows
returns-clause-shows c image of =
    shows_there c.pens_of_one_image_mean_one_world.ensures image c.args.self.now.volume.pen of c.args.number
    c.in_ok-opened.opened c.in_ok-opened.ensures.kept c.in_ok-opened.ensures.shows
