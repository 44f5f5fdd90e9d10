use Rattle.std.proofs.Common.{◌∙◌, sym, drop, ◌-◌, ◌≤◌, length, length-drop, arith}
use Rattle.nl_manifests.proofs.Lookups.{rising_short}
use Rattle.nl_manifests.proofs.looking.are_rising.Goals as goal

pub returns : goal.returns
returns g c =
    let left = drop (c.loop-at.at - 1) c.args.entries.now in
    let few : length left ≤ 1 = omega (arith, length-drop (c.loop-at.at - 1) c.args.entries.now) in
    sym (c.loop-at.invariant ∙ rising_short left few)
