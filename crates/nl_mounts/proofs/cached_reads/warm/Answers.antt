use Rattle.std.proofs.Common.{◌∙◌, ap, refl, Err}
use Rattle.std.proofs.lemmas.Result.{err_from_is_err_and}
use Rattle.nl_tree.specs.Facts.ReadingCalls.{read_refused}
use Rattle.nl_mounts.specs.Warming.Warms.{Nothing}
use Rattle.nl_mounts.proofs.Warming.{warming_found, warming_refused, warms}
use Rattle.nl_mounts.proofs.cached_reads.warm.Goals as goal

pub returns-in_err-inode-clause-refused : goal.returns-in_err-inode-clause-refused
returns-in_err-inode-clause-refused g c = λ held shown h means.
    let given = err_from_is_err_and c.from_residual.result c.from_residual.ensures.1 in
    warming_refused _ c.from_residual.result c.in_err-inode.field-0.0
    (read_refused held shown means 0 0 c.args.path.now c.in_err-inode.field-0.0
    (c.in_err-inode.ensures held h))
    (given.1 ∙ ap Err given.2)

pub returns-in_err-inode-clause-warmed : goal.returns-in_err-inode-clause-warmed
returns-in_err-inode-clause-warmed g c =
    let given = err_from_is_err_and c.from_residual.result c.from_residual.ensures.1 in
    Nothing given.0 given.1 refl

pub returns-clause-refused : goal.returns-clause-refused
returns-clause-refused g c = λ held shown h means.
    warming_found held shown means c.args.path.now c.in_ok-inode.inode c.warm_bytes.result
    (c.in_ok-inode.ensures held h) c.warm_bytes.ensures.refused

pub returns-clause-warmed : goal.returns-clause-warmed
returns-clause-warmed g c =
    warms (g.T.TreeRead.holds c.args.tree.now) c.args.checkpoint c.args.path.now c.args.offset c.args.len
    c.args.cache.now c.warm_bytes.new.cache
    c.in_ok-inode.inode c.warm_bytes.result (λ held h. c.in_ok-inode.ensures held h)
    (λ held h. c.warm_bytes.ensures.warmed held h)
    (λ held h. c.warm_bytes.ensures.begun held h) c.warm_bytes.ensures.refused
