use Rattle.std.proofs.Common.{sym}
use Rattle.nl_commit.specs.Layout.{Layout}
use Rattle.nl_cleaner.specs.Job.{JobView, Stepped}
use Rattle.nl_cleaner.specs.Facts.StepsLeft.{fewer-left}
use Rattle.nl_cleaner.proofs.job.Job.step.Goals as goal

pub returns : goal.returns
returns g c =
    let old : JobView × Layout = (c.args.self.now, c.args.pen.now) in
    let new : JobView × Layout = (c.note.new.self, c.apply-reply.new.self) in
    let event = c.in_ok-event.event in
    let step : Stepped old event c.apply-reply.result new =
    record { next = sym c.in_ok-event.ensures; does = c.apply-reply.ensures; job = c.note.ensures } in
    record {
      stepped = (event, step);
      fewer = fewer-left old new event c.apply-reply.result c.means_a_world.ensures step;
    }
