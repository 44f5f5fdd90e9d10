use Rattle.std.proofs.Common.{ap, refl, sym, subst, ◌∙◌}
use Rattle.nl_publish.specs.Histories.{Known}
use Rattle.nl_publish.specs.Reading.{IsLater}
use Rattle.nl_mounts.specs.Ports.{PortView}
use Rattle.nl_mounts.specs.Sharing.Tells.{Came}
use Rattle.nl_mounts.proofs.FirstSeen.{known_on}
use Rattle.nl_mounts.proofs.shared.apply_for.Goals as goal

pub see-requires : goal.see-requires
see-requires g c =
    subst (λ (k : Known). IsLater c.args.port.now.known k) (sym c.told.ensures)
    (known_on c.args.locked.now c.apply-reply.new.self c.args.port.now.known c.args.event.now
    c.apply-reply.result c.if-not-is_known.ensures c.apply-reply.ensures)

pub returns-clause-tells : goal.returns-clause-tells
returns-clause-tells g c =
    Came c.if-not-is_known.ensures c.apply-reply.ensures c.has_published_all.ensures
    (ap (λ (p : PortView). p.known) c.see.ensures ∙ c.told.ensures)

pub returns-clause-later : goal.returns-clause-later
returns-clause-later g c =
    subst (λ (k : Known). IsLater c.args.port.now.known k)
    (sym (ap (λ (p : PortView). p.known) c.see.ensures ∙ c.told.ensures))
    (known_on c.args.locked.now c.apply-reply.new.self c.args.port.now.known c.args.event.now
    c.apply-reply.result c.if-not-is_known.ensures c.apply-reply.ensures)
