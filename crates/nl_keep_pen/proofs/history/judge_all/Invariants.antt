use Rattle.std.proofs.Common.{drop}
use Rattle.nl_types.specs.Plain.Worlds.{World}
use Rattle.nl_commit.specs.Layout.{MeansWorld}
use Rattle.nl_keep_pen.specs.History.{AreKept}
use Rattle.nl_keep_pen.proofs.history.judge_all.Given as goal

abbrev pub invariant-loop-number : goal.invariant-loop-number
invariant-loop-number g l =
    (w : World) → MeansWorld l.volume.pen w → AreKept (drop l.number-index l.numbers) w → AreKept l.numbers w
