use Rattle.std.proofs.Common.{length}
use Rattle.std.proofs.lemmas.Result.{err_from_is_err_and}
use Rattle.nl_tree.specs.Facts.ReadingCalls.{read_file, read_refused}
use Rattle.nl_mounts.specs.Caching.{HoldsWith}
use Rattle.nl_mounts.proofs.Stored.{touched_by_file}
use Rattle.nl_mounts.proofs.cached_reads.read_cached.Goals as goal

pub returns-in_err-inode-clause-reads : goal.returns-in_err-inode-clause-reads
returns-in_err-inode-clause-reads g c = λ held shown h means.
    let given = err_from_is_err_and c.from_residual.result c.from_residual.ensures.1 in
    rw (given.1, given.2)
    (read_refused held shown means c.args.offset
    (length c.args.into.now) c.args.path.now c.in_err-inode.field-0.0 (c.in_err-inode.ensures held h.0))

pub returns-clause-reads : goal.returns-clause-reads
returns-clause-reads g c = λ held shown h means.
    read_file held shown means c.args.offset (length c.args.into.now) c.args.path.now c.in_ok-inode.inode _
    (c.in_ok-inode.ensures held h.0) (c.read_file.ensures.reads held h.0 h.1)

pub returns-clause-touched : goal.returns-clause-touched
returns-clause-touched g c =
    touched_by_file
    (HoldsWith (g.T.TreeRead.holds c.args.tree.now) c.args.cache.now c.args.checkpoint) c.args.checkpoint
    c.args.path.now c.args.offset c.read_file.result c.in_ok-inode.inode
    c.args.cache.now c.read_file.new.cache
    (λ held h. c.in_ok-inode.ensures held h.0) c.read_file.ensures.touched
