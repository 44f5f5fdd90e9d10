use Rattle.nl_manifests.proofs.HostDifferenceLaws.{exact}
use Rattle.nl_manifests.proofs.laws.host_differences_are_exact.Goals as goal

pub returns : goal.returns
returns c = exact
