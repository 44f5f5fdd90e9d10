use Rattle.std.proofs.Common.{◌≡◌, take}
use Rattle.nl_folders.specs.Private.Sides.{calls_of}
use Rattle.nl_folders.proofs.sides.calls_of.Given as goal

abbrev pub invariant-loop-step : goal.invariant-loop-step
invariant-loop-step l =
    l.calls ≡ calls_of l.sides.present l.sides.wanted (take l.step-index l.sides.steps)
