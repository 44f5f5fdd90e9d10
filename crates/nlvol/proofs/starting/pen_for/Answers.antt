use Rattle.std.proofs.Common.{List, sym, ℕ}
use Rattle.std.proofs.lemmas.Result.{IfOk-weaker}
use Rattle.nl_commit.specs.Layout.{Layout}
use Rattle.nlvol.specs.Beginnings.{IsBegunBy, IsOpenedPen, Kept}
use Rattle.nlvol.proofs.starting.pen_for.Goals as goal

pub returns-in-Some-clause-begun : goal.returns-in-Some-clause-begun
returns-in-Some-clause-begun g c =
    IfOk-weaker c.pen_at.result (λ (pen : Layout). (image : List ℕ) × IsOpenedPen image pen)
    (IsBegunBy c.args.arguments.now)
    (λ pen opened. record {
      beginning = Kept opened.0;
      asked = sym c.in-Some.ensures.variant;
      pen = opened.1;
    })
    c.pen_at.ensures.opened
