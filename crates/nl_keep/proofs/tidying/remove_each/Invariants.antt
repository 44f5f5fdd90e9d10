use Rattle.std.proofs.Common.{take}
use Rattle.nl_keep.specs.MinorOnes.{TakesOutAll, minor_ones}
use Rattle.nl_keep.specs.Volumes.{LeadsTo}
use Rattle.nl_keep.proofs.tidying.remove_each.Given as goal

abbrev pub invariant-loop-row : goal.invariant-loop-row
invariant-loop-row g l =
    LeadsTo (TakesOutAll (minor_ones (take l.row-index l.rows))) (g.V.Volume.means l.initial.volume)
    (g.V.Volume.means l.volume)
