use Rattle.nl_keep_pen.proofs.Runs.{present_mark}
use Rattle.nl_keep_pen.proofs.laws.images_have_the_present_mark.Goals as goal

pub returns : goal.returns
returns c = present_mark c.store_images_have_the_present_mark.ensures
