use Rattle.std.proofs.Common.{ap, sym, ◌∙◌, subst}
use Rattle.nl_publish.specs.declared.reader_state.ReaderState.{ReaderState}
use Rattle.nl_publish.specs.Histories.{Known}
use Rattle.nl_mounts.specs.Ports.{GivenNone, GivenOlder, IsOlder, NotGiven, PortView}
use Rattle.nl_mounts.proofs.port.Port.look.Goals as goal

pub returns-in-Err-clause-missed : goal.returns-in-Err-clause-missed
returns-in-Err-clause-missed g c =
    NotGiven
    (ap (λ (k : Known). k.volume) (sym c.told.ensures.told)
    ∙ (sym c.volume.ensures.volume ∙ (c.if-volume.false
    ∙ (c.volume-2.ensures.volume ∙ ap (λ (p : PortView). p.known.volume) c.self.view_is))))
    (GivenNone c.in-Some.reader c.in-Err.ensures.1)

pub returns-in-None-clause-missed : goal.returns-in-None-clause-missed
returns-in-None-clause-missed g c =
    NotGiven
    (ap (λ (k : Known). k.volume) (sym c.told.ensures.told)
    ∙ (sym c.volume.ensures.volume ∙ (c.if-volume.false
    ∙ (c.volume-2.ensures.volume ∙ ap (λ (p : PortView). p.known.volume) c.self.view_is))))
    (GivenOlder c.in-Some.reader (g.E.Enters.shown c.in-Ok.inside) c.in-Ok.ensures.1
    (subst (λ (p : PortView). IsOlder (g.E.Enters.shown c.in-Ok.inside) p.known) c.self.view_is
    (subst (λ (i : ReaderState). IsOlder i c.self.inside.front) c.state.ensures c.in-None.ensures.older)))
