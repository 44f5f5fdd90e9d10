use Rattle.std.proofs.Common.{Err, ap, sym, subst}
use Rattle.nl_types.specs.declared.error.VolError.{VolError}
use Rattle.nl_publish.specs.Histories.{IsBegun, Known}
use Rattle.nl_mounts.specs.Ports.{IsSeenOn, IsUngiven, PortView}
use Rattle.nl_mounts.proofs.Looking.{back_at, comes, missed}
use Rattle.nl_mounts.proofs.OpenFiles.{holds_as_told}
use Rattle.nl_mounts.proofs.PortPages.{finds_seen, found_in}
use Rattle.nl_mounts.proofs.port.Port.open.Goals as goal

pub open_in-result-requires : goal.open_in-result-requires
open_in-result-requires g c =
    let m = c.args.mount.now in let old = c.args.self.now.known in let look = c.in-Ok.look in
    holds_as_told m old look.front c.state.result.now.tables c.tree.result c.told.ensures.claim
    (subst (λ (k : Known). IsBegun k.commits) c.told.ensures.told c.volume.ensures.begun)
    (found_in m old look.front look.shown c.state.result.now.tables look.tree c.tree.result c.state.ensures
    c.tree.ensures c.in-Ok.ensures.finds)

pub come_back-requires : goal.come_back-requires
come_back-requires g c =
    subst (λ (p : PortView). IsSeenOn p.known c.in-Ok.look.front) (sym c.in-Ok.ensures.out)
    (finds_seen c.args.mount.now c.args.self.now.known c.in-Ok.look.front c.in-Ok.look.shown
    c.in-Ok.look.tree c.in-Ok.ensures.finds)

pub returns-in-Err-clause-looked : goal.returns-in-Err-clause-looked
returns-in-Err-clause-looked g c =
    missed g.E.Enters.gives c.args.mount.now c.args.self.now c.look.new.self.known _ _ c.in-Err.ensures.missed
    (ap (λ (p : PortView). p.known) c.in-Err.ensures.same)
    (ap (λ (e : VolError). Err e) c.in-Err.ensures.refused)

pub returns-in-Ok : goal.returns-in-Ok
returns-in-Ok g c =
    let old = c.args.self.now in let look = c.in-Ok.look in
    let back =
    back_at old c.look.new.self c.come_back.new.self look.front c.in-Ok.ensures.seated c.in-Ok.ensures.out
    c.come_back.ensures in
    let all =
    comes c.args.mount.now old.known c.come_back.new.self.known look
    c.state.result.now.tables c.tree.result (IsUngiven g.E.Enters.gives old.known old.seated) _ _
    c.in-Ok.ensures.finds
    back.known c.state.ensures c.tree.ensures c.open_in-result.ensures.opens in
    record {
      later = all.later;
      looked = all.looked;
      told = all.told;
      mount = c.open_in-result.ensures.mount;
      path = c.open_in-result.ensures.path;
      kept = back.kept;
    }
