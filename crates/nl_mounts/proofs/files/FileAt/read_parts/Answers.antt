use Rattle.std.proofs.Common.{Bool, refl, ap, ◌∙◌, subst, arith}
use Rattle.nl_publish.specs.FactsOfLanes.Later.{later_on, later_self}
use Rattle.nl_mounts.specs.OpenFiles.{FileView, IsFileOf, IsPartRefused}
use Rattle.nl_mounts.specs.Ports.{IsUngiven, PortView, seeing}
use Rattle.nl_mounts.proofs.FileParts.{at_end, at_room, none_read, part_on}
use Rattle.nl_mounts.proofs.OpenFiles.{open_bytes}
use Rattle.nl_mounts.proofs.files.FileAt.read_parts.Goals as goal

pub loop-count-init : goal.loop-count-init
loop-count-init g c =
    let f = c.args.self.now in let fits = c.ranges.offset.fits in
    let file = subst (λ (f : FileView). IsFileOf f.mount f.path f.inode) c.self.view_is c.self.invariant in
    record {
      size = refl;
      within = omega arith;
      fits = omega (arith, fits);
      later = later_self c.args.port.now.known;
      kept = refl;
      reads = λ t on.
          none_read t f.path c.args.offset c.args.into.now (open_bytes f.mount f.path f.inode file t on);
    }

pub returns-in-Err-clause-refused : goal.returns-in-Err-clause-refused
returns-in-Err-clause-refused g c =
    let m = c.args.self.now.mount in let old = c.args.port.now in let new = c.read_part.new.port.known in
    let seated = ap (λ (p : PortView). p.seated) c.loop-count.invariant.kept in
    subst (λ (b : Bool). IsPartRefused m old.known new (λ k. IsUngiven g.E.Enters.gives k b) c.in-Err.refusal)
    seated
    (part_on m old.known c.loop-count.port.known new
    (λ k. IsUngiven g.E.Enters.gives k c.loop-count.port.seated) c.in-Err.refusal c.loop-count.invariant.later
    c.in-Err.ensures.refused)

pub returns-then-more-len-clause-told : goal.returns-then-more-len-clause-told
returns-then-more-len-clause-told g c = λ t on.
    let len = c.min-len.ensures in let low = c.loop-count-test.true in let size = c.loop-count.invariant.size in
    at_end t c.args.self.now.path c.args.offset c.args.into.now c.loop-count.count c.min-len.result c.in-Ok.more
    c.read_part.new.into
    (c.in-Ok.ensures.more t c.args.into.now on (c.loop-count.invariant.reads t on)) c.if-more-len.true
    (omega (arith, len, low, size))

pub loop-count-preserved : goal.loop-count-preserved
loop-count-preserved g c =
    let was = c.loop-count.invariant in let len = c.min-len.ensures in let low = c.loop-count-test.true in
    let few = c.in-Ok.ensures.within in let size = c.in-Ok.ensures.size in
    record {
      size = size ∙ was.size;
      within = omega (arith, few, len, low, size);
      fits = c.in-Ok.ensures.end;
      later =
          later_on c.args.port.now.known c.loop-count.port.known c.read_part.new.port.known was.later
          c.in-Ok.ensures.later;
      kept = c.in-Ok.ensures.kept ∙ ap (λ (p : PortView). seeing p c.read_part.new.port.known) was.kept;
      reads = λ t on. (c.in-Ok.ensures.more t c.args.into.now on (was.reads t on)).reads;
    }

pub returns-clause-told : goal.returns-clause-told
returns-clause-told g c = λ t on.
    let was = c.loop-count.invariant in let size = was.size in let within = was.within in
    let high = c.loop-count-test.false in
    at_room t c.args.self.now.path c.args.offset c.args.into.now c.loop-count.count c.loop-count.into
    (was.reads t on) (omega (arith, size, within, high))
