use Rattle.std.proofs.Common.{refl}
use Rattle.std.proofs.lemmas.Result.{IfOk-weaker, err_from_is_err_and}
use Rattle.nl_types.specs.declared.event.Ask.TheVariants as ask
use Rattle.nl_folders.specs.Spelled.{spelling}
use Rattle.nl_keep.proofs.ReadRefusals.{current_replies, listed_named, names_refused, question_refused, refused_both}
use Rattle.nl_keep.proofs.TreeReads.{listed_now}
use Rattle.nl_keep.proofs.current_folder.CurrentFolderFolder.list.Goals as goal

pub returns-clause-listed : goal.returns-clause-listed
returns-clause-listed g c =
    IfOk-weaker c.names_of.result _ _ (λ found is tree shown.
    listed_now c.args.path.now c.in_ok-ask.ask c.applied-reply.result found
    (g.V.Volume.means c.args.self.now.volume) (g.V.Volume.means c.applied-reply.new.volume)
    (c.in_ok-ask.ensures.names refl) c.in_ok-ask.ensures.asked c.applied-reply.ensures is tree shown)
    c.names_of.ensures.names

pub returns-clause-refused : goal.returns-clause-refused
returns-clause-refused g c =
    refused_both c.names_of.result c.names_of.ensures.other c.names_of.ensures.refused (λ e other refused tree names shown is.
    let replies =
    current_replies c.in_ok-ask.ask (ask.List (spelling c.args.path.now)) c.applied-reply.result tree
    (g.V.Volume.means c.args.self.now.volume) (g.V.Volume.means c.applied-reply.new.volume) c.in_ok-ask.ensures.asked
    c.applied-reply.ensures shown in
    names_refused c.args.path.now tree names c.applied-reply.result e
    (listed_named tree c.args.path.now names shown.is_tree is) is replies other refused)

pub returns-in_err-ask-clause-refused : goal.returns-in_err-ask-clause-refused
returns-in_err-ask-clause-refused g c =
    let p = err_from_is_err_and c.from_residual.result c.from_residual.ensures.1 in
    rw (p.1, p.2) (λ tree names shown is.
    question_refused c.args.path.now c.in_err-ask.field-0.0
    (listed_named tree c.args.path.now names shown.is_tree is) c.in_err-ask.ensures.refused)
