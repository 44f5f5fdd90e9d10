use Rattle.nl_image.proofs.ImageBytes.{images_are_spelled}
use Rattle.nl_image.proofs.laws.images_are_spelled.Goals as goal

pub returns : goal.returns
returns c = images_are_spelled
