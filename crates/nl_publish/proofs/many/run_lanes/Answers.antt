use Rattle.std.proofs.Common.{subst, slice_index_or}
use Rattle.nl_publish.specs.Jobs.{HasRunBy, LaneView}
use Rattle.nl_publish.proofs.Lanes.{zip_all}
use Rattle.nl_publish.proofs.many.run_lanes.Goals as goal

pub returns : goal.returns
returns g c =
    let r = g.P.FileReader in
    let m = c.args.mount.now in let jobs = c.args.jobs.now in let now = c.for_each_mut.new.s in
    zip_all (HasRunBy r.known r.with_known m jobs) c.args.lanes.now now c.for_each_mut.auto.s
    (λ i d less.
    let at = (c.for_each_mut.ensures i d less).1 in
    subst (λ (x : LaneView g.row.P.Denot).
    HasRunBy r.known r.with_known m jobs x (slice_index_or now i d)) at.argument_is
    (subst (HasRunBy r.known r.with_known m jobs at.argument.now) at.left at.call))
