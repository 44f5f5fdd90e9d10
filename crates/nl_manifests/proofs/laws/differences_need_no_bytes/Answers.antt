use Rattle.nl_manifests.proofs.UnreadDifferences.{need_no_bytes}
use Rattle.nl_manifests.proofs.laws.differences_need_no_bytes.Goals as goal

pub returns : goal.returns
returns c = need_no_bytes c.differences_are_exact.ensures c.trees_show_one.ensures
