use Rattle.nl_keep_pen.proofs.LookedAt.{tells_there}
use Rattle.nl_keep_pen.proofs.opened.OpenedVolume.differences.Goals as goal

pub returns-clause-tells : goal.returns-clause-tells
returns-clause-tells c image of =
    tells_there c.pens_of_one_image_mean_one_world.ensures image c.args.self.now.volume.pen of c.args.old c.args.new
    c.in_ok-told.told c.in_ok-told.ensures.kept_old c.in_ok-told.ensures.kept_new c.in_ok-told.ensures.tells
