use Rattle.std.proofs.Common.{◌+◌, List, ℕ, drop, subst, sym}
use Rattle.std.proofs.lemmas.Result.{err_from_is_err_and}
use Rattle.nl_keep_pen.specs.History.{AreKept}
use Rattle.nl_keep_pen.proofs.ChangeLists.{lacks, more_kept, rest_is}
use Rattle.nl_keep_pen.proofs.history.judge_all.Goals as goal

pub loop-number-preserved : goal.loop-number-preserved
loop-number-preserved g c w means others =
    let i = c.loop-number.number-index in
    let numbers = c.args.numbers.now in
    let n = c.number-item.result in
    c.loop-number.invariant w means
    (subst (λ (ns : List ℕ). AreKept ns w) (sym (rest_is numbers i n n c.loop-number-test.true c.number-item.is))
    (more_kept w n (drop (i + 1) numbers) (c.in_ok-judge_kept.ensures.kept w means) others))

pub returns-in_err-judge_kept-clause-missing : goal.returns-in_err-judge_kept-clause-missing
returns-in_err-judge_kept-clause-missing g c =
    let p = err_from_is_err_and c.from_residual.result c.from_residual.ensures.1 in
    let n = c.number-item.result in
    rw p.1 (λ w means.
    lacks w c.args.numbers.now c.loop-number.number-index n n c.loop-number-test.true c.number-item.is
    (c.in_err-judge_kept.ensures.missing w means))
