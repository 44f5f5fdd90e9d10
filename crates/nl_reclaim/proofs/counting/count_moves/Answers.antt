use Rattle.std.proofs.Common.{◌∙◌, refl}
use Rattle.std.proofs.lemmas.List.{get_or_default}
use Rattle.nl_reclaim.proofs.MixedPlaces.{all-done, births-room, moves-some, moves-there, one-moved}
use Rattle.nl_reclaim.proofs.SegmentsOf.{follow-laws}
use Rattle.nl_reclaim.proofs.counting.count_moves.Goals as goal

pub move_one-requires : goal.move_one-requires
move_one-requires g c =
    let follow =
    (follow-laws c.counts_follow_blocks.ensures.added c.counts_follow_blocks.ensures.taken
    c.counts_follow_blocks.ensures.few c.counts_follow_blocks.ensures.some) in
    let store = g.V.Vstore.store c.args.store.now in
    let sound = g.met.V.Vstore.is_store c.args.store.now in
    let (old, leave, are) = c.requires in
    let now = c.loop-number.invariant old leave are in
    record {
      room =
          births-room follow store sound c.args.numbers.now old c.loop-number.number-index
          c.loop-number.counts now;
      segment =
          moves-there follow store sound c.args.numbers.now c.args.segment old leave
          c.loop-number.number-index _ c.loop-number-test.true refl c.loop-number.counts now;
      some =
          moves-some follow store sound c.args.numbers.now c.args.segment old leave c.loop-number.number-index
          _ c.loop-number-test.true refl c.loop-number.counts now;
    }

pub loop-number-preserved : goal.loop-number-preserved
loop-number-preserved g c = λ old leave are.
    one-moved (follow-laws c.counts_follow_blocks.ensures.added c.counts_follow_blocks.ensures.taken
    c.counts_follow_blocks.ensures.few c.counts_follow_blocks.ensures.some)
    (g.V.Vstore.store c.args.store.now)
    (g.met.V.Vstore.is_store c.args.store.now) c.args.numbers.now c.args.segment old leave
    c.loop-number.number-index c.number-item.result
    c.loop-number-test.true
    (c.number-item.is
    ∙ get_or_default c.args.numbers.now c.loop-number.number-index c.number-item.result 0
    c.loop-number-test.true)
    c.loop-number.counts (c.loop-number.invariant old leave are) c.move_one.new.counts c.move_one.ensures

pub returns : goal.returns
returns g c = λ old leave are.
    all-done (follow-laws c.counts_follow_blocks.ensures.added c.counts_follow_blocks.ensures.taken
    c.counts_follow_blocks.ensures.few c.counts_follow_blocks.ensures.some)
    (g.V.Vstore.store c.args.store.now)
    (g.met.V.Vstore.is_store c.args.store.now) c.args.numbers.now old c.loop-number.number-index
    c.loop-number.counts
    c.loop-number-test.false (c.loop-number.invariant old leave are)
