use Rattle.std.proofs.Common.{sym, subst}
use Rattle.std.proofs.lemmas.Result.{IfOk-weaker}
use Rattle.nl_manifests.specs.HostTrees.{HostTree}
use Rattle.nl_shown.specs.Reverted.{IsInOrder}
use Rattle.nl_shown.proofs.LostTrees.{ordered_lost}
use Rattle.nl_shown.proofs.lost.coming_back.Goals as goal

pub returns-then-has_bad_manifest-clause-ordered : goal.returns-then-has_bad_manifest-clause-ordered
returns-then-has_bad_manifest-clause-ordered c =
    IfOk-weaker c.with_lost.result _ _
    (λ tree lost later earlier.
    subst (λ (t : HostTree). IsInOrder t) (sym (lost later))
    (ordered_lost c.args.later.now c.args.top.now c.args.earlier earlier))
    c.with_lost.ensures
