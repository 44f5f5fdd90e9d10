use Rattle.nl_keep_pen.proofs.Runs.{snapshot_kept}
use Rattle.nl_keep_pen.proofs.laws.snapshots_have_the_moment.Goals as goal

pub returns : goal.returns
returns c = snapshot_kept c.pens_of_one_image_mean_one_world.ensures
