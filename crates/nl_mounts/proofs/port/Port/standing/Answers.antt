use Rattle.std.proofs.Common.{ap, refl, sym, subst, ◌∙◌}
use Rattle.nl_publish.specs.Histories.{Known}
use Rattle.nl_publish.specs.Reading.{IsLater}
use Rattle.nl_mounts.specs.Ports.{IsSeenOn, IsUngiven, PortView}
use Rattle.nl_mounts.proofs.Looking.{back_at}
use Rattle.nl_mounts.proofs.PortPages.{finds_seen}
use Rattle.nl_mounts.proofs.MountStandings.{stands_found, stands_missed}
use Rattle.nl_mounts.proofs.port.Port.standing.Goals as goal

pub come_back-requires : goal.come_back-requires
come_back-requires g c =
    subst (λ (p : PortView). IsSeenOn p.known c.in-Ok.look.front) (sym c.in-Ok.ensures.out)
    (finds_seen c.args.mount.now c.args.self.now.known c.in-Ok.look.front c.in-Ok.look.shown
    c.in-Ok.look.tree c.in-Ok.ensures.finds)

pub returns-in-Err-clause-stands : goal.returns-in-Err-clause-stands
returns-in-Err-clause-stands g c =
    stands_missed g.E.Enters.gives c.args.mount.now c.args.self.now c.look.new.self.known _
    (sym c.volume.ensures ∙ (c.if-volume.false ∙ c.volume-2.ensures)) c.in-Err.ensures.missed
    (ap (λ (p : PortView). p.known) c.in-Err.ensures.same) refl

pub returns-in-Ok : goal.returns-in-Ok
returns-in-Ok g c =
    let m = c.args.mount.now in let old = c.args.self.now in let look = c.in-Ok.look in
    let back =
    back_at old c.look.new.self c.come_back.new.self look.front c.in-Ok.ensures.seated c.in-Ok.ensures.out
    c.come_back.ensures in
    let seen =
    finds_seen m old.known look.front look.shown look.tree c.in-Ok.ensures.finds in
    record {
      later = subst (IsLater old.known) (sym back.known) seen.later;
      stands =
          stands_found m old.known c.come_back.new.self.known look.front
          (IsUngiven g.E.Enters.gives old.known old.seated) look.shown look.tree c.tree.result
          c.standing_of-standing.result c.in-Ok.ensures.finds back.known c.tree.ensures
          c.standing_of-standing.ensures;
      kept = back.kept;
    }
