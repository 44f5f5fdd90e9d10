use Rattle.std.proofs.Common.{rules, ap, sym, subst}
use mathlib.Core.List.{IsPrefix}
use Rattle.nl_publish.specs.Histories.{Known}
use Rattle.nl_mounts.specs.Ports.{PortView}
use Rattle.nl_mounts.proofs.PortPages.{learned_pages}
use Rattle.nl_mounts.proofs.port.Port.see.Goals as goal

pub invariant_of-self : goal.invariant_of-self
invariant_of-self g c =
    let old = c.self.inside.front in let new = c.args.front in
    let was = ap (λ (p : PortView). p.known) c.self.view_is in
    let prefix = subst (λ (k : Known). IsPrefix k.commits new.commits) (sym was) c.requires.commits in (
      search rules,
      learned_pages old new c.self.inside.cache c.volume.ensures.begun prefix c.self.invariant.1,
    )
