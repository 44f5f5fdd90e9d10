use Rattle.std.proofs.Common.{sym}
use Rattle.nl_tree.specs.Facts.ReadingCalls.{unless_memory}
use Rattle.nl_tree.proofs.reading.answer_bytes.Goals as goal

pub returns-in_err-bytes : goal.returns-in_err-bytes
returns-in_err-bytes g c = λ held shown h means.
    unless_memory c.from_residual.result c.in_err-bytes.field-0.0 _ c.from_residual.ensures.1
    (c.in_err-bytes.ensures held shown h means)

pub returns : goal.returns
returns g c = λ held shown h means other. sym (c.in_ok-bytes.ensures held shown h means)
