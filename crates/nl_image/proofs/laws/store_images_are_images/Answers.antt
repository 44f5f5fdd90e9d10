use Rattle.nl_image.proofs.StoreConditions.{store_images_are_images}
use Rattle.nl_image.proofs.laws.store_images_are_images.Goals as goal

pub returns : goal.returns
returns c = store_images_are_images
