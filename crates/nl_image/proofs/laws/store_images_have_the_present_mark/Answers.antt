use Rattle.nl_image.proofs.PresentMark.{present-stays}
use Rattle.nl_image.proofs.laws.store_images_have_the_present_mark.Goals as goal

pub returns : goal.returns
returns c = present-stays
