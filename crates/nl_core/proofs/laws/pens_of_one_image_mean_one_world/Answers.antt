use Rattle.nl_core.proofs.OneImage.{images_mean_one_world}
use Rattle.nl_core.proofs.laws.pens_of_one_image_mean_one_world.Goals as goal

pub returns : goal.returns
returns c = images_mean_one_world c.sound_checkpoints_meet_all.ensures c.store_images_are_images.ensures
    c.store_images_tell_the_store.ensures.pages c.images_have_one_list_of_parts.ensures
