use Rattle.nl_manifests.proofs.Kept.{lines_ascend}
use Rattle.nl_manifests.proofs.looking.Known.new.Goals as goal

pub invariant_of-result : goal.invariant_of-result
invariant_of-result c = lines_ascend c.args.manifest c.requires
