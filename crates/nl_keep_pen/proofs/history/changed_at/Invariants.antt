use Rattle.std.proofs.Common.{drop}
use Rattle.std.specs.List.{cons_option}
use Rattle.nl_types.specs.Plain.Worlds.{World}
use Rattle.nl_commit.specs.Layout.{MeansWorld}
use Rattle.nl_keep_pen.specs.History.{AreKept}
use Rattle.nl_keep_pen.proofs.ChangeLists.{Among, GoesOn}
use Rattle.nl_keep_pen.proofs.history.changed_at.Given as goal

abbrev pub invariant-loop-number : goal.invariant-loop-number
invariant-loop-number g l = record {
  among : Among (cons_option l.before (drop l.number-index l.numbers)) l.numbers;
  changes : (w : World) → MeansWorld l.volume.pen w → AreKept l.numbers w
      → GoesOn w l.path l.numbers l.before (drop l.number-index l.numbers) l.changes;
}
