use Rattle.std.proofs.Common.{◌<◌, length, arith}
use Rattle.nl_types.specs.Blocks.Entries.{is_needed}
use Rattle.nl_vstore.specs.Located.{needs}
use Rattle.nl_vstore.specs.Stores.{content_in}
use Rattle.nl_reclaim.proofs.LetGo.{none-yet, one-more, still-listed}
use Rattle.nl_reclaim.proofs.letting_go.take_run_off.Goals as goal

pub loop-index-init : goal.loop-index-init
loop-index-init g c = record {
  low = omega arith;
  high = c.requires.order;
  left = (
    c.args.ends.now.ended,
    c.requires.listed,
    none-yet (needs (is_needed (g.K.Keeping.kept c.args.keeping.now))
        (content_in (g.V.Vstore.store c.args.store.now)))
        c.args.from c.args.ends.now.ended,
  );
}

pub take_one_off-requires : goal.take_one_off-requires
take_one_off-requires g c =
    let needed =
    needs (is_needed (g.K.Keeping.kept c.args.keeping.now))
    (content_in (g.V.Vstore.store c.args.store.now)) in
    let (left, listed, all) = c.loop-index.invariant.left in
    let low : c.loop-index.index < length c.args.ends.now.ended = omega arith in
    (left, listed, still-listed needed c.args.from c.loop-index.index c.args.ends.now.ended left low all)

pub loop-index-preserved : goal.loop-index-preserved
loop-index-preserved g c =
    let needed =
    needs (is_needed (g.K.Keeping.kept c.args.keeping.now))
    (content_in (g.V.Vstore.store c.args.store.now)) in
    let (left, listed, all) = c.loop-index.invariant.left in
    let low : c.loop-index.index < length c.args.ends.now.ended = omega arith in
    let (new, still, one) =
    c.take_one_off.ensures left listed
    (still-listed needed c.args.from c.loop-index.index c.args.ends.now.ended left low all) in
    let up = c.loop-index.invariant.low in
    record {
      low = omega (arith, up);
      high = omega arith;
      left = (
        new,
        still,
        one-more needed c.args.from c.loop-index.index c.args.ends.now.ended left new up all one,
      );
    }
