use Rattle.nlvol.proofs.SavedVolumes.{come_back}
use Rattle.nlvol.proofs.laws.saved_volumes_come_back.Goals as goal

pub returns : goal.returns
returns c = come_back c.store_images_have_the_present_mark.ensures c.pens_of_one_image_mean_one_world.ensures
