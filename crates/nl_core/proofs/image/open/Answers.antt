use Rattle.std.proofs.Common.{inl, inr}
use Rattle.std.proofs.lemmas.Result.{err_from_is_err_and}
use Rattle.nl_core.proofs.image.open.Goals as goal

pub returns-in_err-pen-clause-refused : goal.returns-in_err-pen-clause-refused
returns-in_err-pen-clause-refused g c =
    let p =
    err_from_is_err_and c.from_residual-in_err-pen.result c.from_residual-in_err-pen.ensures.1 in
    let read = c.in_ok-read.ensures.found in
    rw (p.1, p.2)
    (elim c.in_err-pen.ensures.refused [
      | inl fault ↦ inl (fault, (read.parts, read.image))
      | inr memory ↦ inr (inl memory)
    ])

pub returns-clause-accepted : goal.returns-clause-accepted
returns-clause-accepted g c = let read = c.in_ok-read.ensures.found in (read.parts, read.image)
