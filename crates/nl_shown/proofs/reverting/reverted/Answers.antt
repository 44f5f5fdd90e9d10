use Rattle.std.proofs.Common.{ap, subst, ◌∙◌}
use Rattle.nl_manifests.specs.HostTrees.{HostTree}
use Rattle.nl_shown.specs.Reverted.{IsInOrder}
use Rattle.nl_shown.specs.Private.Inserting.{IsWithoutPart, inserted}
use Rattle.nl_shown.proofs.RevertedTrees.{reverted}
use Rattle.nl_shown.proofs.reverting.reverted.Goals as goal

pub returns-clause-reverted : goal.returns-clause-reverted
returns-clause-reverted c sorted other =
    let without =
    subst (λ (t : HostTree). IsInOrder t → IsWithoutPart c.args.later t c.args.top.now c.in_ok-rest.rest)
    c.as_slice-2.ensures (c.in_ok-rest.ensures.done sorted) in
    reverted c.args.later c.args.earlier c.args.top.now c.in_ok-rest.rest c.in_ok-tree.tree other
    (without other)
    (c.in_ok-tree.ensures
    ∙ ap (λ (part : HostTree). inserted c.args.top.now part c.in_ok-rest.rest) c.in_ok-part.ensures)
