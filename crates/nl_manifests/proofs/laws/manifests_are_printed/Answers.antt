use Rattle.nl_manifests.proofs.Read.{manifests_are_printed}
use Rattle.nl_manifests.proofs.laws.manifests_are_printed.Goals as goal

pub returns : goal.returns
returns c = manifests_are_printed
