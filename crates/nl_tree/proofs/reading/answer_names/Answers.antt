use Rattle.nl_types.specs.declared.reply.Answer.TheVariants as answer
use Rattle.nl_tree.specs.Facts.ReadingCalls.{answered, not_answered, unless_memory}
use Rattle.nl_tree.proofs.reading.answer_names.Goals as goal

pub returns-in_err-names : goal.returns-in_err-names
returns-in_err-names g c = λ held shown h means.
    unless_memory c.from_residual.result c.in_err-names.field-0.0 _ c.from_residual.ensures.1
    (λ other.
    not_answered answer.Names _ c.in_err-names.field-0.0 (c.in_err-names.ensures held shown h means other))

pub returns : goal.returns
returns g c = λ held shown h means other.
    answered answer.Names _ c.in_ok-names.names (c.in_ok-names.ensures held shown h means)
