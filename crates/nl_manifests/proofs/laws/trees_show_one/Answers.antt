use Rattle.std.proofs.Common.{sym, ◌∙◌}
use Rattle.std.specs.FinMap.Entries.{same_entries}
use Rattle.nl_types.specs.Facts.Booleans.{holds}
use Rattle.nl_types.specs.Facts.TreeLaws.{path_total, paths_equal}
use Rattle.nl_types.specs.Plain.Paths.{path_cmp}
use Rattle.nl_manifests.proofs.laws.trees_show_one.Goals as goal

pub returns : goal.returns
returns c tree one other first second =
    same_entries path_cmp path_total paths_equal one other (holds _ first.ordered) (holds _ second.ordered)
    (λ q. first.each q ∙ sym (second.each q))
