use Rattle.std.proofs.Common.{ap}
use Rattle.std.proofs.lemmas.Result.{err_from_is_err_and}
use Rattle.nl_keep.specs.Refusals.{passed_on}
use Rattle.nl_keep_pen.proofs.Images.{has_pins}
use Rattle.nl_keep_pen.proofs.PinsRead.{latest_is}
use Rattle.nl_keep_pen.proofs.opened.OpenedVolume.pins.Goals as goal

pub returns-clause-pins : goal.returns-clause-pins
returns-clause-pins c image of =
    has_pins c.pens_of_one_image_mean_one_world.ensures image c.args.self.now.volume.pen of c.latest-latest.result
    c.in_ok-pins.pins c.latest-latest.ensures.world c.in_ok-pins.ensures.pins

pub returns-in_err-pins-clause-refused : goal.returns-in_err-pins-clause-refused
returns-in_err-pins-clause-refused c =
    let p = err_from_is_err_and c.from_residual.result c.from_residual.ensures.1 in
    let world = c.means_a_world.ensures.world in
    let kept =
    latest_is world.0 world.1.world c.latest-latest.result (c.latest-latest.ensures.world world.0 world.1) in
    rw (p.1, p.2) (ap passed_on (c.in_err-pins.ensures.refused world.0 kept.0 world.1 kept.1))
