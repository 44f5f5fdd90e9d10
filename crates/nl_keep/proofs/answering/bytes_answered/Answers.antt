use Rattle.std.proofs.Common.{refl, inr}
use Rattle.std.proofs.lemmas.Result.{IfErr-weaker, IfOk-weaker, err_from_is_err_and}
use Rattle.nl_types.specs.declared.event.Ask.TheVariants as ask
use Rattle.nl_folders.specs.Spelled.{spelling}
use Rattle.nl_keep.proofs.ReadRefusals.{bytes_refused, missing_refused, question_refused, read_named, refused_both, replies}
use Rattle.nl_keep.proofs.TreeReads.{read_whole}
use Rattle.nl_keep.proofs.answering.bytes_answered.Goals as goal

pub returns-clause-read : goal.returns-clause-read
returns-clause-read g c =
    IfOk-weaker c.bytes_of.result _ _ (λ found is tree answers.
    read_whole c.args.path.now c.in_ok-ask.ask c.answer-reply.result found tree
    (g.met.A.Answering.sound c.args.answering.now tree answers) (c.in_ok-ask.ensures.names refl)
    c.in_ok-ask.ensures.asked (c.answer-reply.ensures tree answers) is)
    c.bytes_of.ensures.bytes

pub returns-clause-refused : goal.returns-clause-refused
returns-clause-refused g c =
    refused_both c.bytes_of.result c.bytes_of.ensures.other c.bytes_of.ensures.refused (λ e other refused tree bytes answers is.
    let answered =
    replies c.in_ok-ask.ask (ask.Bytes (spelling c.args.path.now) 0 18446744073709551615) c.answer-reply.result tree
    c.in_ok-ask.ensures.asked (c.answer-reply.ensures tree answers) in
    bytes_refused c.args.path.now 18446744073709551615 tree bytes c.answer-reply.result e
    (read_named tree c.args.path.now bytes (g.met.A.Answering.sound c.args.answering.now tree answers) is) is answered other
    refused)

pub returns-in_err-ask-clause-refused : goal.returns-in_err-ask-clause-refused
returns-in_err-ask-clause-refused g c =
    let p = err_from_is_err_and c.from_residual.result c.from_residual.ensures.1 in
    rw (p.1, p.2) (λ tree bytes answers is.
    question_refused c.args.path.now c.in_err-ask.field-0.0
    (read_named tree c.args.path.now bytes (g.met.A.Answering.sound c.args.answering.now tree answers) is)
    c.in_err-ask.ensures.refused)

pub returns-clause-missing : goal.returns-clause-missing
returns-clause-missing g c =
    IfErr-weaker c.bytes_of.result _ _ (λ e refused tree x answers names missing.
    let answered =
    replies c.in_ok-ask.ask (ask.Bytes (spelling c.args.path.now) 0 18446744073709551615) c.answer-reply.result tree
    c.in_ok-ask.ensures.asked (c.answer-reply.ensures tree answers) in
    missing_refused c.args.path.now 18446744073709551615 tree x c.answer-reply.result e names missing answered refused)
    c.bytes_of.ensures.refused

pub returns-in_err-ask-clause-missing : goal.returns-in_err-ask-clause-missing
returns-in_err-ask-clause-missing g c =
    let p = err_from_is_err_and c.from_residual.result c.from_residual.ensures.1 in
    rw (p.1, p.2) (λ tree x answers names missing.
    inr (question_refused c.args.path.now c.in_err-ask.field-0.0 names c.in_err-ask.ensures.refused))
