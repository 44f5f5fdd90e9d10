use Rattle.std.proofs.Common.{Err, ap, sym, subst}
use Rattle.nl_types.specs.declared.error.VolError.{VolError}
use Rattle.nl_mounts.specs.Ports.{IsSeenOn, IsUngiven, PortView}
use Rattle.nl_mounts.specs.Visiting.{NotGiven}
use Rattle.nl_mounts.proofs.Looking.{back_at}
use Rattle.nl_mounts.proofs.Visiting.{came_back}
use Rattle.nl_mounts.proofs.port.Port.checkpoints.Goals as goal

pub come_back-requires : goal.come_back-requires
come_back-requires g c =
    subst (λ (p : PortView). IsSeenOn p.known c.in-Ok.look.front) (sym c.in-Ok.ensures.out)
    c.in-Ok.ensures.enters.seen

pub returns-in-Err-clause-visited : goal.returns-in-Err-clause-visited
returns-in-Err-clause-visited g c =
    NotGiven c.in-Err.ensures.ungiven
    (ap (λ (p : PortView). p.known) c.in-Err.ensures.same)
    (ap (λ (e : VolError). Err e) c.in-Err.ensures.refused)

pub returns-in-Ok : goal.returns-in-Ok
returns-in-Ok g c =
    let old = c.args.self.now in let look = c.in-Ok.look in
    let back =
    back_at old c.visit.new.self c.come_back.new.self look.front c.in-Ok.ensures.seated c.in-Ok.ensures.out
    c.come_back.ensures in
    let all =
    came_back old.known c.come_back.new.self.known look c.state.result.now.tables
    (IsUngiven g.E.Enters.gives old.known old.seated) _ _ c.in-Ok.ensures.enters back.known c.state.ensures
    c.rows_in-result.ensures in
    record { later = all.later; visited = all.visited; kept = back.kept }
