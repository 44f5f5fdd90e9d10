use Rattle.std.proofs.Common.{◌≡◌, Err, ap, sym, subst}
use Rattle.std.specs.Prelude.{is_some}
use Rattle.nl_types.specs.declared.error.VolError.TheVariants.{BadMount}
use Rattle.nl_publish.specs.Histories.{Known}
use Rattle.nl_publish.specs.Reading.{Looked}
use Rattle.nl_mounts.specs.Ports.{IsUngiven, PortView}
use Rattle.nl_mounts.specs.Warming.{IsWarmingOf}
use Rattle.nl_mounts.proofs.port.Port.warm.Goals as goal

pub returns-clause-looked : goal.returns-clause-looked
returns-clause-looked g c = λ some.
    let m = c.args.mount.now in let result = c.warm_through-result.result in
    let new = ap (λ (p : PortView). p.known) c.self-2.view_is in
    subst (λ (p : PortView).
    Looked m p.known c.self-2.inside.front (IsUngiven g.E.Enters.gives p.known p.seated)
    (result ≡ Err BadMount)
    (λ t. IsWarmingOf t c.args.path.now result))
    c.self.view_is
    (subst (λ (k : Known).
    Looked m c.self.inside.front k
    (IsUngiven g.E.Enters.gives c.self.inside.front (is_some c.self.inside.reader)) (result ≡ Err BadMount)
    (λ t. IsWarmingOf t c.args.path.now result))
    (sym new)
    c.warm_through-result.ensures.looked)
