use Rattle.std.proofs.Common.{◌∙◌, sym, drop, ◌-◌, ◌≤◌, length, length-drop, arith}
use Rattle.nl_manifests.proofs.LineOrder.{ascend_short}
use Rattle.nl_manifests.proofs.manifest.ascend.Goals as goal

pub returns : goal.returns
returns c =
    let left = drop (c.loop-at.at - 1) c.args.lines.now in
    let few : length left ≤ 1 = omega (arith, length-drop (c.loop-at.at - 1) c.args.lines.now) in
    sym (c.loop-at.invariant ∙ ascend_short left few)
