use Rattle.std.proofs.Common.{◌∙◌, ap, sym, Bool, ℕ, Some}
use Rattle.nl_script.specs.Lines.{needed_of}
use Rattle.nl_script.proofs.ToldSegments.{needed-missing, needed-there, on_err}
use Rattle.nl_script.proofs.lines.told_needed.Goals as goal

pub returns-in_err-count-clause-refused : goal.returns-in_err-count-clause-refused
returns-in_err-count-clause-refused g c =
    on_err c.from_residual.result _
    (needed-missing (g.P.NotingPen.layout c.args.pen.now) c.args.segment c.in_err-count.field-0.0
    c.in_err-count.ensures)

pub returns-in_ok-count-clause-told : goal.returns-in_ok-count-clause-told
returns-in_ok-count-clause-told g c =
    let layout = g.P.NotingPen.layout c.args.pen.now in
    ap (λ (n : ℕ). Some n) (needed-there layout c.args.segment c.in_ok-count.count c.in_ok-count.ensures)
    ∙ ap (λ (b : Bool). needed_of b layout c.args.segment) (sym c.if-long.true)
