use Rattle.std.proofs.Common.{sym, subst}
use Rattle.nl_publish.specs.declared.reader_state.ReaderState.{ReaderState}
use Rattle.nl_mounts.specs.Ports.{GivenNone, GivenOlder, IsOlder, PortView}
use Rattle.nl_mounts.proofs.Visiting.{entered}
use Rattle.nl_mounts.proofs.port.Port.visit.Goals as goal

pub returns-in-Err-clause-ungiven : goal.returns-in-Err-clause-ungiven
returns-in-Err-clause-ungiven g c = GivenNone c.in-Some.reader c.in-Err.ensures.1

pub returns-in-None-clause-ungiven : goal.returns-in-None-clause-ungiven
returns-in-None-clause-ungiven g c =
    GivenOlder c.in-Some.reader (g.E.Enters.shown c.in-Ok.inside) c.in-Ok.ensures.1
    (subst (λ (p : PortView). IsOlder (g.E.Enters.shown c.in-Ok.inside) p.known) c.self.view_is
    (subst (λ (i : ReaderState). IsOlder i c.self.inside.front) c.state.ensures c.in-None.ensures.older))
