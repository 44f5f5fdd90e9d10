use Rattle.nl_image.proofs.OneImage.{one-image}
use Rattle.nl_image.proofs.StoreConditions.{store_images_tell_pages}
use Rattle.nl_image.proofs.laws.store_images_tell_the_store.Goals as goal

pub returns-clause-one : goal.returns-clause-one
returns-clause-one c = one-image

pub returns-clause-pages : goal.returns-clause-pages
returns-clause-pages c = store_images_tell_pages
