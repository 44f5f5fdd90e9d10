use Rattle.std.proofs.Common.{Err, ap, refl, sym, subst}
use Rattle.nl_types.specs.declared.error.VolError.{VolError}
use Rattle.nl_commit.specs.Commits.{shown_after}
use Rattle.nl_commit.specs.Shown.{pages_shown}
use Rattle.nl_publish.specs.Histories.{Known}
use Rattle.nl_mounts.specs.Caching.{AreCachedPages}
use Rattle.nl_mounts.specs.Ports.{IsSeenOn, IsUngiven, OfMountFile, OfTreeFile, PortView, TouchesIfAny}
use Rattle.nl_mounts.proofs.Looking.{back_at, comes, missed}
use Rattle.nl_mounts.proofs.PortPages.{finds_seen, found_in, is_cache, read_refused, seen_on, touched_pages, touches_at}
use Rattle.nl_mounts.proofs.port.Port.read_through.Goals as goal

pub read_in-result-requires : goal.read_in-result-requires
read_in-result-requires g c =
    let m = c.args.mount.now in let old = c.args.self.now.known in let look = c.in-Ok.look in
    let finds =
    found_in m old look.front look.shown c.state.result.now.tables look.tree c.tree.result c.state.ensures
    c.tree.ensures c.in-Ok.ensures.finds in
    is_cache m old look.front c.state.result.now.tables c.tree.result c.args.cache.now finds
    (seen_on old look.front c.args.cache.now
    (finds_seen m old look.front c.state.result.now.tables c.tree.result finds) c.requires)

pub come_back-requires : goal.come_back-requires
come_back-requires g c =
    subst (λ (p : PortView). IsSeenOn p.known c.in-Ok.look.front) (sym c.in-Ok.ensures.out)
    (finds_seen c.args.mount.now c.args.self.now.known c.in-Ok.look.front c.in-Ok.look.shown
    c.in-Ok.look.tree c.in-Ok.ensures.finds)

pub returns-in-Err-clause-looked : goal.returns-in-Err-clause-looked
returns-in-Err-clause-looked g c =
    missed g.E.Enters.gives c.args.mount.now c.args.self.now c.look.new.self.known _ _ c.in-Err.ensures.missed
    (ap (λ (p : PortView). p.known) c.in-Err.ensures.same)
    (record { refused = ap (λ (e : VolError). Err e) c.in-Err.ensures.refused; same = refl })

pub returns-in-Ok : goal.returns-in-Ok
returns-in-Ok g c =
    let m = c.args.mount.now in let old = c.args.self.now.known in let look = c.in-Ok.look in
    let state = c.state.result.now.tables in
    let tree = c.tree.result in
    let result = c.read_in-result.result in
    let was = c.args.cache.now in let now = c.read_in-result.new.cache in
    let finds =
    found_in m old look.front look.shown state look.tree tree c.state.ensures c.tree.ensures
    c.in-Ok.ensures.finds in
    let pages = seen_on old look.front was (finds_seen m old look.front state tree finds) c.requires in
    let back =
    back_at c.args.self.now c.look.new.self c.come_back.new.self look.front c.in-Ok.ensures.seated
    c.in-Ok.ensures.out c.come_back.ensures in
    let all =
    comes m old c.come_back.new.self.known look state tree
    (IsUngiven g.E.Enters.gives old c.args.self.now.seated) _ _ c.in-Ok.ensures.finds
    back.known c.state.ensures c.tree.ensures c.read_in-result.ensures.reads in
    record {
      kept = back.kept;
      pages = subst (λ (k : Known). AreCachedPages k.commits now) (sym back.known)
          (touched_pages look.front.commits
          (OfTreeFile (pages_shown state) tree c.args.path.now) c.args.offset was now result
          c.read_in-result.ensures.touched pages);
      later = all.later;
      looked = all.looked;
      told = all.told;
      touched =
          subst (λ (k : Known).
          TouchesIfAny
          (OfMountFile (shown_after k.commits) m.number c.args.path.now) c.args.offset was result now)
          (sym back.known)
          (touches_at m old look.front state tree c.args.path.now c.args.offset was now result finds
          (read_refused (pages_shown state) tree result _ _ _ c.read_in-result.ensures.reads)
          c.read_in-result.ensures.touched);
    }
