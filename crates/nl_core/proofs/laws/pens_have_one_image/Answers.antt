use Rattle.nl_core.proofs.PenImages.{pen_images_are_images, pens_have_one_image}
use Rattle.nl_core.proofs.laws.pens_have_one_image.Goals as goal

pub returns-clause-image : goal.returns-clause-image
returns-clause-image c =
    pen_images_are_images c.sound_checkpoints_meet_all.ensures c.store_images_are_images.ensures

pub returns-clause-one : goal.returns-clause-one
returns-clause-one c =
    pens_have_one_image c.sound_checkpoints_meet_all.ensures c.store_images_tell_the_store.ensures.one
