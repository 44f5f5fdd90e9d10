use Rattle.std.proofs.Common.{Err, ap, refl, sym, subst}
use Rattle.nl_types.specs.declared.error.VolError.{VolError}
use Rattle.nl_commit.specs.Shown.{pages_shown}
use Rattle.nl_publish.specs.Histories.{IsBegun, Known}
use Rattle.nl_publish.specs.Reading.{Looked}
use Rattle.nl_mounts.specs.OpenFiles.{FileView, HoldsAsTold, IsFileRead}
use Rattle.nl_mounts.specs.Ports.{Finds, IsNotRead, IsSeenOn, IsUngiven, Misses, PortView}
use Rattle.nl_mounts.proofs.Looking.{back_at, comes, missed}
use Rattle.nl_mounts.proofs.OpenFiles.{bad_if, holds_as_told, part_lacks, part_missed, same_if}
use Rattle.nl_mounts.proofs.PortPages.{finds_seen, found_in}
use Rattle.nl_mounts.proofs.files.FileAt.read_into.Goals as goal

pub read_in-result-requires : goal.read_in-result-requires
read_in-result-requires g c =
    let m = c.self.inside.mount.now in let old = c.args.port.now.known in let look = c.in-Ok.look in
    subst (λ (f : FileView). HoldsAsTold f.mount (pages_shown c.state.result.now.tables) c.tree.result)
    c.self.view_is
    (holds_as_told m old look.front c.state.result.now.tables c.tree.result c.told.ensures.claim
    (subst (λ (k : Known). IsBegun k.commits) c.told.ensures.told c.volume.ensures.begun)
    (found_in m old look.front look.shown c.state.result.now.tables look.tree c.tree.result c.state.ensures
    c.tree.ensures c.in-Ok.ensures.finds))

pub come_back-requires : goal.come_back-requires
come_back-requires g c =
    subst (λ (p : PortView). IsSeenOn p.known c.in-Ok.look.front) (sym c.in-Ok.ensures.out)
    (finds_seen c.self.inside.mount.now c.args.port.now.known c.in-Ok.look.front c.in-Ok.look.shown
    c.in-Ok.look.tree c.in-Ok.ensures.finds)

pub returns-in-Err-clause-looked : goal.returns-in-Err-clause-looked
returns-in-Err-clause-looked g c =
    let old = c.args.port.now in
    subst (λ (f : FileView).
    Looked f.mount old.known c.look.new.self.known (IsUngiven g.E.Enters.gives old.known old.seated)
    (IsNotRead (Err c.in-Err.refusal) c.args.into.now c.args.into.now)
    (λ t. IsFileRead t f.path c.args.offset c.args.into.now (Err c.in-Err.refusal) c.args.into.now))
    c.self.view_is
    (missed g.E.Enters.gives c.self.inside.mount.now old c.look.new.self.known _ _ c.in-Err.ensures.missed
    (ap (λ (p : PortView). p.known) c.in-Err.ensures.same)
    (record { refused = ap (λ (e : VolError). Err e) c.in-Err.ensures.refused; same = refl }))

pub returns-in-Err-clause-refused : goal.returns-in-Err-clause-refused
returns-in-Err-clause-refused g c =
    part_missed g.E.Enters.gives c.args.self.now.mount c.args.port.now c.look.new.self.known c.in-Err.refusal
    (subst (λ (f : FileView). Misses g.E.Enters.gives f.mount c.args.port.now) c.self.view_is
    c.in-Err.ensures.missed)
    (ap (λ (p : PortView). p.known) c.in-Err.ensures.same) c.in-Err.ensures.refused

pub returns-in-Ok : goal.returns-in-Ok
returns-in-Ok g c =
    let old = c.args.port.now in let look = c.in-Ok.look in
    let m = c.args.self.now.mount in
    let state = c.state.result.now.tables in let tree = c.tree.result in
    let read = c.read_in-result in
    let finds = subst (λ (f : FileView). Finds f.mount old.known look.front look.shown look.tree) c.self.view_is
    c.in-Ok.ensures.finds in
    let back =
    back_at old c.look.new.self c.come_back.new.self look.front c.in-Ok.ensures.seated c.in-Ok.ensures.out
    c.come_back.ensures in
    let all =
    comes m old.known c.come_back.new.self.known look state tree
    (IsUngiven g.E.Enters.gives old.known old.seated) _ _ finds
    back.known c.state.ensures c.tree.ensures read.ensures.reads in
    record {
      later = all.later;
      looked = all.looked;
      told = all.told;
      refused =
          part_lacks m old.known c.come_back.new.self.known look.front state tree
          (λ k. IsUngiven g.E.Enters.gives k old.seated) read.result
          (found_in m old.known look.front look.shown state look.tree tree c.state.ensures c.tree.ensures finds)
          back.known read.ensures.refused
          (bad_if (pages_shown state) tree read.result c.args.into.now read.new.into _ read.ensures.reads
          read.ensures.refused);
      same =
          same_if (pages_shown state) tree read.result c.args.into.now read.new.into _ read.ensures.reads
          read.ensures.refused;
      within = read.ensures.within;
      end = read.ensures.end;
      kept = back.kept;
    }
