use Rattle.std.proofs.Common.{◌∙◌, ap, subst, sym}
use Rattle.nl_types.specs.Plain.Paths.{Path}
use Rattle.std.specs.List.{list_all}
use Rattle.nl_host.specs.HostPaths.{is_host_name}
use Rattle.nl_host.specs.Puts.{HasAttributes}
use Rattle.nl_host.proofs.Askings.{Asked-given}
use Rattle.nl_host.proofs.Places.{last_due, left_is}
use Rattle.nl_host.proofs.putting.Putting.leave.Goals as goal

pub returns-in_err-finished-clause-stands : goal.returns-in_err-finished-clause-stands
returns-in_err-finished-clause-stands g c =
    left_is _ _ _ _ _ _ _ _ _ _ _ _ _ c.requires c.in-Some.ensures.items c.climb-climbed.ensures.tree
    c.climb-climbed.ensures.here c.climb-climbed.ensures.first c.climb-climbed.ensures.due c.finish-finished.ensures.stays
    c.climb-climbed.ensures.trail

pub returns-in_err-finished-clause-asked : goal.returns-in_err-finished-clause-asked
returns-in_err-finished-clause-asked g c =
    Asked-given _ _ c.in-Some.attributes _ _ (c.climb-climbed.ensures.asked ∙ c.finish-finished.ensures.asked)
    (λ a is. subst (λ (p : Path). HasAttributes c.args.self.now.tree.now p a) (sym c.requires.here_is)
    (last_due _ _ _ _ _ _ _ c.requires c.in-Some.ensures.items a is))
    (ap (λ (p : Path). list_all is_host_name p) c.requires.here_is ∙ c.requires.named)

pub returns-clause-stands : goal.returns-clause-stands
returns-clause-stands g c =
    left_is _ _ _ _ _ _ _ _ _ _ _ _ _ c.requires c.in-Some.ensures.items c.climb-climbed.ensures.tree
    c.climb-climbed.ensures.here c.climb-climbed.ensures.first c.climb-climbed.ensures.due c.finish-finished.ensures.stays
    c.climb-climbed.ensures.trail

pub returns-clause-asked : goal.returns-clause-asked
returns-clause-asked g c =
    Asked-given _ _ c.in-Some.attributes _ _ (c.climb-climbed.ensures.asked ∙ c.finish-finished.ensures.asked)
    (λ a is. subst (λ (p : Path). HasAttributes c.args.self.now.tree.now p a) (sym c.requires.here_is)
    (last_due _ _ _ _ _ _ _ c.requires c.in-Some.ensures.items a is))
    (ap (λ (p : Path). list_all is_host_name p) c.requires.here_is ∙ c.requires.named)
