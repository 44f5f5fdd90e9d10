use Rattle.nl_manifests.proofs.SealedTrees.{shows_it}
use Rattle.nl_manifests.proofs.laws.sealed_trees_open.Goals as goal

pub returns : goal.returns
returns c shown opened tree whole made shows =
    c.trees_show_one.ensures tree opened shown shows (shows_it shown whole tree made)
