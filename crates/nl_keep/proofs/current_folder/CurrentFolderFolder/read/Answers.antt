use Rattle.std.proofs.Common.{refl}
use Rattle.std.proofs.lemmas.Result.{IfOk-weaker, err_from_is_err_and}
use Rattle.nl_types.specs.declared.event.Ask.TheVariants as ask
use Rattle.nl_folders.specs.Spelled.{spelling}
use Rattle.nl_keep.proofs.ReadRefusals.{bytes_refused, current_replies, question_refused, read_named, refused_both}
use Rattle.nl_keep.proofs.TreeReads.{read_whole_now}
use Rattle.nl_keep.proofs.current_folder.CurrentFolderFolder.read.Goals as goal

pub returns-clause-read : goal.returns-clause-read
returns-clause-read g c =
    IfOk-weaker c.bytes_of.result _ _ (λ found is tree shown.
    read_whole_now c.args.path.now c.in_ok-ask.ask c.applied-reply.result found
    (g.V.Volume.means c.args.self.now.volume) (g.V.Volume.means c.applied-reply.new.volume)
    (c.in_ok-ask.ensures.names refl) c.in_ok-ask.ensures.asked c.applied-reply.ensures is tree shown)
    c.bytes_of.ensures.bytes

pub returns-clause-refused : goal.returns-clause-refused
returns-clause-refused g c =
    refused_both c.bytes_of.result c.bytes_of.ensures.other c.bytes_of.ensures.refused (λ e other refused tree bytes shown is.
    let replies =
    current_replies c.in_ok-ask.ask (ask.Bytes (spelling c.args.path.now) 0 18446744073709551615) c.applied-reply.result tree
    (g.V.Volume.means c.args.self.now.volume) (g.V.Volume.means c.applied-reply.new.volume) c.in_ok-ask.ensures.asked
    c.applied-reply.ensures shown in
    bytes_refused c.args.path.now 18446744073709551615 tree bytes c.applied-reply.result e
    (read_named tree c.args.path.now bytes shown.is_tree is) is replies other refused)

pub returns-in_err-ask-clause-refused : goal.returns-in_err-ask-clause-refused
returns-in_err-ask-clause-refused g c =
    let p = err_from_is_err_and c.from_residual.result c.from_residual.ensures.1 in
    rw (p.1, p.2) (λ tree bytes shown is.
    question_refused c.args.path.now c.in_err-ask.field-0.0
    (read_named tree c.args.path.now bytes shown.is_tree is) c.in_err-ask.ensures.refused)
