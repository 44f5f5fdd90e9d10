use Rattle.std.proofs.Common.{◌≡◌, ℕ, ◌/◌, ◌∙◌, ap, arith, length, take}
use Rattle.std.proofs.lemmas.List.{length-take, take_at}
use Rattle.nl_tree.specs.Facts.ReadingCalls.{are_bytes_from}
use Rattle.nl_mounts.specs.Caching.{block_count, touched}
use Rattle.nl_mounts.proofs.cached_reads.read_file.Goals as goal

pub returns-clause-reads : goal.returns-clause-reads
returns-clause-reads g c = λ held h cached.
    let size = c.size.ensures held h in
    let long : length c.read.new.into ≡ c.min-count.result =
    omega (arith, length-take c.min-count.result c.args.into.now) in
    rw (take_at c.read.new.into _ c.min-count.result long)
    (are_bytes_from (held c.args.file.now.inode) c.args.offset (length c.args.into.now) c.read.new.into
    (omega (arith, size, long)) (c.read.ensures.read held h cached))

pub returns-clause-touched : goal.returns-clause-touched
returns-clause-touched g c =
    let file = c.args.file.now in let offset = c.args.offset in
    let long : length (take c.min-count.result c.args.into.now) ≡ c.min-count.result =
    omega (arith, length-take c.min-count.result c.args.into.now) in
    c.read.ensures.touched
    ∙ ap
    (λ (n : ℕ). touched file.checkpoint file.inode (offset / 1024) (block_count offset n) c.args.cache.now)
    long
