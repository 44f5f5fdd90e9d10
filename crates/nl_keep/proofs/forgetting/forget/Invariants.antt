use Rattle.std.proofs.Common.{take}
use Rattle.nl_keep.specs.Forgotten.{Forgets}
use Rattle.nl_keep.specs.Volumes.{LeadsTo}
use Rattle.nl_keep.proofs.forgetting.forget.Given as goal

abbrev pub invariant-loop-number : goal.invariant-loop-number
invariant-loop-number g l =
    LeadsTo (Forgets (take l.number-index l.numbers)) (g.V.Volume.means l.initial.volume)
    (g.V.Volume.means l.volume)
