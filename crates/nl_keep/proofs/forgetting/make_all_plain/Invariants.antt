use Rattle.std.proofs.Common.{take}
use Rattle.nl_keep.specs.Forgotten.{MakesAllPlain}
use Rattle.nl_keep.specs.Volumes.{LeadsTo}
use Rattle.nl_keep.proofs.forgetting.make_all_plain.Given as goal

abbrev pub invariant-loop-one : goal.invariant-loop-one
invariant-loop-one g l =
    LeadsTo (MakesAllPlain (take l.one-index l.numbers)) (g.V.Volume.means l.initial.volume)
    (g.V.Volume.means l.volume)
