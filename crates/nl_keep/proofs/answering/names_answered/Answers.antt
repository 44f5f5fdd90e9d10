use Rattle.std.proofs.Common.{refl}
use Rattle.std.proofs.lemmas.Result.{IfOk-weaker, err_from_is_err_and}
use Rattle.nl_types.specs.declared.event.Ask.TheVariants as ask
use Rattle.nl_folders.specs.Spelled.{spelling}
use Rattle.nl_keep.proofs.ReadRefusals.{listed_named, names_refused, question_refused, refused_both, replies}
use Rattle.nl_keep.proofs.TreeReads.{listed}
use Rattle.nl_keep.proofs.answering.names_answered.Goals as goal

pub returns-clause-listed : goal.returns-clause-listed
returns-clause-listed g c =
    IfOk-weaker c.names_of.result _ _ (λ found is tree answers.
    listed c.args.path.now c.in_ok-ask.ask c.answer-reply.result found tree (c.in_ok-ask.ensures.names refl)
    c.in_ok-ask.ensures.asked (c.answer-reply.ensures tree answers) is)
    c.names_of.ensures.names

pub returns-clause-refused : goal.returns-clause-refused
returns-clause-refused g c =
    refused_both c.names_of.result c.names_of.ensures.other c.names_of.ensures.refused (λ e other refused tree names answers is.
    let answered =
    replies c.in_ok-ask.ask (ask.List (spelling c.args.path.now)) c.answer-reply.result tree
    c.in_ok-ask.ensures.asked (c.answer-reply.ensures tree answers) in
    names_refused c.args.path.now tree names c.answer-reply.result e
    (listed_named tree c.args.path.now names (g.met.A.Answering.sound c.args.answering.now tree answers) is) is answered other
    refused)

pub returns-in_err-ask-clause-refused : goal.returns-in_err-ask-clause-refused
returns-in_err-ask-clause-refused g c =
    let p = err_from_is_err_and c.from_residual.result c.from_residual.ensures.1 in
    rw (p.1, p.2) (λ tree names answers is.
    question_refused c.args.path.now c.in_err-ask.field-0.0
    (listed_named tree c.args.path.now names (g.met.A.Answering.sound c.args.answering.now tree answers) is)
    c.in_err-ask.ensures.refused)
