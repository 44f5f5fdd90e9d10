use Rattle.nl_keep_pen.proofs.Runs.{gone_from_image}
use Rattle.nl_keep_pen.proofs.laws.forgotten_are_gone.Goals as goal

pub returns : goal.returns
returns c =
    gone_from_image c.pens_of_one_image_mean_one_world.ensures c.forgets_keep_others.ensures.earlier
    c.forgets_keep_others.ensures.gone
