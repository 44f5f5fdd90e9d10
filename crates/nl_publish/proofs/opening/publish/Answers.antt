use Rattle.std.proofs.lemmas.Result.{IfOk-from_err}
use Rattle.nl_publish.proofs.opening.publish.Goals as goal

pub returns-in_err-first-clause-published : goal.returns-in_err-first-clause-published
returns-in_err-first-clause-published g c =
    IfOk-from_err c.from_residual.result _ c.from_residual.ensures.0

pub returns-in_err-first-clause-book : goal.returns-in_err-first-clause-book
returns-in_err-first-clause-book g c =
    IfOk-from_err c.from_residual.result _ c.from_residual.ensures.0

pub returns-in_err-first-clause-seats : goal.returns-in_err-first-clause-seats
returns-in_err-first-clause-seats g c =
    IfOk-from_err c.from_residual.result _ c.from_residual.ensures.0

pub returns-in_err-second-clause-published : goal.returns-in_err-second-clause-published
returns-in_err-second-clause-published g c =
    IfOk-from_err c.from_residual-in_err-second.result _ c.from_residual-in_err-second.ensures.0

pub returns-in_err-second-clause-book : goal.returns-in_err-second-clause-book
returns-in_err-second-clause-book g c =
    IfOk-from_err c.from_residual-in_err-second.result _ c.from_residual-in_err-second.ensures.0

pub returns-in_err-second-clause-seats : goal.returns-in_err-second-clause-seats
returns-in_err-second-clause-seats g c =
    IfOk-from_err c.from_residual-in_err-second.result _ c.from_residual-in_err-second.ensures.0

pub returns-in_err-named-clause-published : goal.returns-in_err-named-clause-published
returns-in_err-named-clause-published g c =
    IfOk-from_err c.from_residual-in_err-named.result _ c.from_residual-in_err-named.ensures.0

pub returns-in_err-named-clause-book : goal.returns-in_err-named-clause-book
returns-in_err-named-clause-book g c =
    IfOk-from_err c.from_residual-in_err-named.result _ c.from_residual-in_err-named.ensures.0

pub returns-in_err-named-clause-seats : goal.returns-in_err-named-clause-seats
returns-in_err-named-clause-seats g c =
    IfOk-from_err c.from_residual-in_err-named.result _ c.from_residual-in_err-named.ensures.0

pub returns-in_err-first-clause-fronts : goal.returns-in_err-first-clause-fronts
returns-in_err-first-clause-fronts g c =
    IfOk-from_err c.from_residual.result _ c.from_residual.ensures.0

pub returns-in_err-second-clause-fronts : goal.returns-in_err-second-clause-fronts
returns-in_err-second-clause-fronts g c =
    IfOk-from_err c.from_residual-in_err-second.result _ c.from_residual-in_err-second.ensures.0

pub returns-in_err-named-clause-fronts : goal.returns-in_err-named-clause-fronts
returns-in_err-named-clause-fronts g c =
    IfOk-from_err c.from_residual-in_err-named.result _ c.from_residual-in_err-named.ensures.0
