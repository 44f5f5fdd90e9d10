use Rattle.std.proofs.Common.{◌∙◌, ap, arith, map, sym}
use Rattle.std.proofs.lemmas.List.{get_or-map, length-map}
use Rattle.nl_vstore.specs.Batches.{number_of_payload}
use Rattle.nl_reclaim.proofs.MixedPlaces.{all-done, births-room, one-born}
use Rattle.nl_reclaim.proofs.SegmentsOf.{follow-laws}
use Rattle.nl_reclaim.proofs.counting.count_births.Goals as goal

pub count_one-requires : goal.count_one-requires
count_one-requires g c =
    let (old, get, are) = c.requires in
    births-room (follow-laws c.counts_follow_blocks.ensures.added c.counts_follow_blocks.ensures.taken
    c.counts_follow_blocks.ensures.few c.counts_follow_blocks.ensures.some)
    (g.V.Vstore.store c.args.store.now) (g.met.V.Vstore.is_store c.args.store.now)
    (map number_of_payload c.args.births.now) old c.loop-birth.birth-index c.loop-birth.counts
    (c.loop-birth.invariant old get are)

pub loop-birth-preserved : goal.loop-birth-preserved
loop-birth-preserved g c = λ old get are.
    one-born (follow-laws c.counts_follow_blocks.ensures.added c.counts_follow_blocks.ensures.taken
    c.counts_follow_blocks.ensures.few c.counts_follow_blocks.ensures.some)
    (g.V.Vstore.store c.args.store.now) (g.met.V.Vstore.is_store c.args.store.now)
    (map number_of_payload c.args.births.now) old get c.loop-birth.birth-index
    c.birth-item.result.0.number (omega (arith, length-map c.args.births.now number_of_payload))
    (ap number_of_payload c.birth-item.is
    ∙ sym (get_or-map number_of_payload c.args.births.now c.loop-birth.birth-index c.birth-item.result 0
    c.loop-birth-test.true))
    c.loop-birth.counts c.count_one.new.counts (c.loop-birth.invariant old get are) c.count_one.ensures

pub returns : goal.returns
returns g c = λ old get are.
    all-done (follow-laws c.counts_follow_blocks.ensures.added c.counts_follow_blocks.ensures.taken
    c.counts_follow_blocks.ensures.few c.counts_follow_blocks.ensures.some)
    (g.V.Vstore.store c.args.store.now) (g.met.V.Vstore.is_store c.args.store.now)
    (map number_of_payload c.args.births.now) old c.loop-birth.birth-index c.loop-birth.counts
    (omega (arith, length-map c.args.births.now number_of_payload)) (c.loop-birth.invariant old get are)
