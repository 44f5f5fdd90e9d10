use Rattle.std.proofs.lemmas.Result.{IfErr-weaker, IfOk-weaker, err_from_is_err_and}
use Rattle.nl_keep_pen.proofs.KnownFiles.{differ_by, differ_refused, none_missing}
use Rattle.nl_keep_pen.proofs.comparing.checkpoint_differences.Goals as goal

pub returns-clause-differ : goal.returns-clause-differ
returns-clause-differ g c =
    IfOk-weaker c.folder_differences.result _ _ (λ all told w means.
    differ_by c.args.volume.now.pen c.args.old c.args.new all c.new.result.files.known w means
    (c.in_ok-judge_both.ensures.old w means) (c.in_ok-judge_both.ensures.new w means)
    (λ one other before after. c.new.ensures w one other means before after)
    told)
    c.folder_differences.ensures.differ

pub returns-in_err-judge_both-clause-refused : goal.returns-in_err-judge_both-clause-refused
returns-in_err-judge_both-clause-refused g c =
    let p = err_from_is_err_and c.from_residual.result c.from_residual.ensures.1 in
    rw (p.1, p.2) (λ w one other means before after.
    absurd (none_missing w c.args.old c.args.new one other before after
    (c.in_err-judge_both.ensures.missing w means)))

pub returns-clause-refused : goal.returns-clause-refused
returns-clause-refused g c =
    IfErr-weaker c.folder_differences.result _ _ (λ e told w one other means before after.
    differ_refused c.args.volume.now.pen c.args.old c.args.new e c.new.result.files.known w one other means before
    after (c.new.ensures w one other means before after) told)
    c.folder_differences.ensures.refused
