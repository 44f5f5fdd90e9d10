use Rattle.std.proofs.Common.{sym}
use Rattle.std.proofs.lemmas.Result.{err_from_is_err_and}
use Rattle.nl_types.specs.declared.reply.Answer.TheVariants as answer
use Rattle.nl_tree.specs.Facts.ReadingCalls.{answered, not_answered}
use Rattle.nl_tree.proofs.reading.answer_stat.Goals as goal

pub returns-in_err-found : goal.returns-in_err-found
returns-in_err-found g c = λ held shown h means.
    let given = err_from_is_err_and c.from_residual.result c.from_residual.ensures.1 in
    rw (given.1, given.2)
    (sym (not_answered answer.Stat _ c.in_err-found.field-0.0
    (sym (c.in_err-found.ensures held shown h means))))

pub returns : goal.returns
returns g c = λ held shown h means.
    answered answer.Stat _ c.in_ok-found.found (sym (c.in_ok-found.ensures held shown h means))
