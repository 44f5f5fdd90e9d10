use Rattle.std.proofs.Common.{IfOk, subst, sym, ◌∙◌}
use Rattle.std.proofs.lemmas.Result.{IfOk-weaker}
use Rattle.nl_types.specs.Plain.Trees.{Tree, IsTree}
use Rattle.nl_manifests.specs.HostTrees.{Shows}
use Rattle.nl_shown.proofs.Apart.{pinless_is_tree}
use Rattle.nl_shown.proofs.showing.shown_tree.Goals as goal

pub returns-clause-shows : goal.returns-clause-shows
returns-clause-shows c =
    subst (λ (t : Tree). IfOk c.open.result (λ opened. IsTree c.args.tree → Shows t opened.tree))
    (c.as_slice.ensures ∙ c.in_ok-tree.ensures)
    (IfOk-weaker c.open.result _ _ (λ opened shows is.
    shows (subst (λ (t : Tree). IsTree t) (sym (c.as_slice.ensures ∙ c.in_ok-tree.ensures)) (pinless_is_tree c.args.tree is)))
    c.open.ensures.shows)
