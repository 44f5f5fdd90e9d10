use Rattle.std.proofs.Common.{ℕ, ◌+◌, ◌∙◌, [], ◌∷◌, ap, length-append, sym}
use Rattle.std.proofs.lemmas.List.Elements.{All-append, All-cons, All-nil}
use Rattle.nl_damage.specs.Private.SumReading.{segments_at}
use Rattle.nl_damage.specs.SumTexts.{IsDigest}
use Rattle.nl_damage.proofs.SumLoops.{ends, fails, goes_on}
use Rattle.nl_damage.proofs.sums.reading.segments_of.Goals as goal

pub returns-in_default-clause-read : goal.returns-in_default-clause-read
returns-in_default-clause-read c =
    let bytes = c.args.bytes.now in
    let total = segments_at c.args.count bytes in
    sym (fails c.loop.digests c.args.count c.loop.counter c.loop.left.now total c.loop.invariant.read
    c.loop-test.true c.in_default.ensures.read)

pub loop-preserved : goal.loop-preserved
loop-preserved c =
    let bytes = c.args.bytes.now in
    let total = segments_at c.args.count bytes in
    let digest = c.in-Some.digest in
    let more = c.in_ok-push.ensures.ok in
    record {
      read =
          rw more
          (goes_on c.loop.digests c.args.count c.loop.counter c.loop.left.now total c.loop.invariant.read digest
          c.in-Some.rest.now c.loop-test.true c.in-Some.ensures.read);
      each =
          rw more
          (All-append IsDigest c.loop.digests (digest ∷ []) c.loop.invariant.each
          (All-cons IsDigest digest [] c.in-Some.ensures.digest (All-nil IsDigest)));
      count =
          rw more
          (length-append c.loop.digests (digest ∷ [])
          ∙ ap (λ (n : ℕ). n + 1) c.loop.invariant.count);
    }

pub returns-clause-read : goal.returns-clause-read
returns-clause-read c =
    let bytes = c.args.bytes.now in
    let total = segments_at c.args.count bytes in
    sym (ends c.loop.digests c.args.count c.loop.counter c.loop.left.now total c.loop.invariant.read
    c.loop-test.false)
