use Rattle.std.proofs.lemmas.Result.{IfOk-from_err}
use Rattle.nl_publish.proofs.opening.take_seats.Goals as goal

pub returns-in_err-seats-clause-count : goal.returns-in_err-seats-clause-count
returns-in_err-seats-clause-count g c = IfOk-from_err c.from_residual.result _ c.from_residual.ensures.0

pub returns-in_err-reader-clause-count : goal.returns-in_err-reader-clause-count
returns-in_err-reader-clause-count g c = IfOk-from_err c.from_residual-in_err-reader.result _ c.from_residual-in_err-reader.ensures.0

pub returns-in_err-push-clause-count : goal.returns-in_err-push-clause-count
returns-in_err-push-clause-count g c = IfOk-from_err c.from_residual-in_err-push.result _ c.from_residual-in_err-push.ensures.0

pub returns-in_err-seats-clause-fronts : goal.returns-in_err-seats-clause-fronts
returns-in_err-seats-clause-fronts g c = IfOk-from_err c.from_residual.result _ c.from_residual.ensures.0

pub returns-in_err-reader-clause-fronts : goal.returns-in_err-reader-clause-fronts
returns-in_err-reader-clause-fronts g c = IfOk-from_err c.from_residual-in_err-reader.result _ c.from_residual-in_err-reader.ensures.0

pub returns-in_err-push-clause-fronts : goal.returns-in_err-push-clause-fronts
returns-in_err-push-clause-fronts g c = IfOk-from_err c.from_residual-in_err-push.result _ c.from_residual-in_err-push.ensures.0
