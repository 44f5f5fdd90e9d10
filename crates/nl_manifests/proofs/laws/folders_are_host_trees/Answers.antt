use Rattle.nl_manifests.proofs.FolderTrees.{folders_are}
use Rattle.nl_manifests.proofs.laws.folders_are_host_trees.Goals as goal

pub returns : goal.returns
returns c = folders_are
