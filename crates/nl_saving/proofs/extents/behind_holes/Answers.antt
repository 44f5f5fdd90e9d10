use Rattle.std.proofs.Common.{arith, length, refl}
use Rattle.nl_saving.proofs.UnitBounds.{more_zeros, next_bound}
use Rattle.nl_saving.proofs.extents.behind_holes.Goals as goal

pub loop-at-preserved : goal.loop-at-preserved
loop-at-preserved c =
    let whole = c.if-has_hole.ensures.whole refl in
    record {
      ascends = omega arith;
      zeros =
          more_zeros c.args.bytes.now c.args.from c.loop-at.at 4096 c.loop-at.invariant.ascends
          c.loop-at.invariant.zeros (c.if-has_hole.ensures.hole.0 refl);
      bound = next_bound (length c.args.bytes.now) c.loop-at.at c.loop-at.invariant.bound whole;
    }
