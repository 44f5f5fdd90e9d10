use Rattle.std.proofs.Common.{rules, ap, sym, subst}
use Rattle.nl_publish.specs.Histories.{Known}
use Rattle.nl_mounts.specs.Ports.{IsSeenOn, LookView, PortView}
use Rattle.nl_mounts.proofs.PortPages.{seen_on}
use Rattle.nl_mounts.proofs.port.Port.come_back.Goals as goal

pub invariant_of-self : goal.invariant_of-self
invariant_of-self g c =
    let old = c.self.inside.front in let new = c.look.inside.front in
    let was = ap (λ (p : PortView). p.known) c.self.view_is in
    let now = ap (λ (l : LookView). l.front) c.look.view_is in
    let seen =
    subst (λ (k : Known). IsSeenOn k new) (sym was)
    (subst (λ (k : Known). IsSeenOn c.args.self.now.known k) (sym now) c.requires) in
    (search rules, seen_on old new c.self.inside.cache seen c.self.invariant.1)
