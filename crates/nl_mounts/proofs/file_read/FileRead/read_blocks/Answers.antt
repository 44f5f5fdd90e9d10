use Rattle.std.proofs.Common.{◌≡◌, ℕ, ◌+◌, ◌/◌, ◌∙◌, ap, length, arith}
use Rattle.nl_mounts.specs.Caching.{block_count, key_of, touched}
use Rattle.nl_mounts.proofs.Kept.{cached_still, next_edge, touched_begun, touched_next}
use Rattle.nl_mounts.proofs.file_read.FileRead.read_blocks.Goals as goal

pub loop-seen-init : goal.loop-seen-init
loop-seen-init g c =
    let file = c.args.self.now.file.now in
    record {
      behind = omega arith;
      within = omega arith;
      edge = λ some more. absurd (omega (arith, some));
      touched_is = touched_begun c.args.self.now.offset file.checkpoint file.inode c.args.cache.now;
      still = λ held cached. cached;
      read = λ held h cached k low. absurd (omega (arith, low));
    }

pub loop-seen-smaller : goal.loop-seen-smaller
loop-seen-smaller g c =
    let low = c.loop-seen-test.true in let next = c.block_end-end.ensures in
    omega (arith, low, next)

pub loop-seen-preserved : goal.loop-seen-preserved
loop-seen-preserved g c =
    let file = c.args.self.now.file.now in let offset = c.args.self.now.offset in
    let was = c.loop-seen.invariant in let seen = c.loop-seen.seen in let end = c.block_end-end.result in
    let low = c.loop-seen-test.true in let next = c.block_end-end.ensures in
    let touched_is = c.read_block-done.ensures.touched in
    record {
      behind = c.read_block-done.ensures.within;
      within = omega (arith, low, next);
      edge = next_edge offset seen _ end low next;
      touched_is =
          touched_next offset seen _ end low next was.edge file.checkpoint file.inode c.args.cache.now
          c.loop-seen.cache c.read_block-done.new.cache was.touched_is touched_is;
      still = λ held cached.
          cached_still (key_of file.checkpoint file.inode ((offset + seen) / 1024)) c.loop-seen.cache
          c.read_block-done.new.cache file.checkpoint held touched_is
          (was.still held cached);
      read = λ held h cached.
          c.read_block-done.ensures.read held h (was.still held cached) (was.read held h cached);
    }

pub returns-clause-touched : goal.returns-clause-touched
returns-clause-touched g c =
    let file = c.args.self.now.file.now in let offset = c.args.self.now.offset in
    let was = c.loop-seen.invariant in let within = was.within in let behind = c.loop-seen-test.false in
    let all : c.loop-seen.seen ≡ length c.args.into.now = omega (arith, within, behind) in
    was.touched_is
    ∙ ap
    (λ (n : ℕ). touched file.checkpoint file.inode (offset / 1024) (block_count offset n) c.args.cache.now)
    all

pub returns-clause-read : goal.returns-clause-read
returns-clause-read g c = λ held h cached k low.
    c.read_stored.ensures held h (c.loop-seen.invariant.read held h cached) k
    (omega (arith, low, c.read_stored.auto.into, c.loop-seen.auto.into))
