use Rattle.nl_commit.specs.Layout.{FailsIn, LacksSpaceFor, cleaned}
use Rattle.nl_keep_pen.specs.Facts.Volumes.{volume_step}
use Rattle.nl_keep_pen.proofs.PenVolumeVolume.apply.Goals as goal

pub returns : goal.returns
returns g c w means =
    let old = c.args.self.now.pen in
    let step = c.apply.ensures.follows w means in (
      step.after,
      step.means,
      (
        cleaned old c.args.event.now,
        volume_step (LacksSpaceFor old) (FailsIn old c.apply.new.self) (cleaned old c.args.event.now) w
            c.args.event.now c.apply.result step.after step.step,
      ),
    )
