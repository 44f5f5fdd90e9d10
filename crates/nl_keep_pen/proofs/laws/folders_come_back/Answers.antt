use Rattle.std.proofs.Common.{subst, sym}
use Rattle.nl_types.specs.Plain.Trees.{Tree}
use Rattle.nl_manifests.specs.HostTrees.{Shows}
use Rattle.nl_keep_pen.proofs.laws.folders_come_back.Goals as goal

pub returns : goal.returns
returns c moment n folder opened tree read old first last images w shows means stores keeps reads again =
    c.trees_show_one.ensures read opened folder again
    (subst (λ (t : Tree). Shows t folder)
    (sym (c.backups_come_back.ensures moment n tree read old first last images w means stores keeps reads)) shows)
