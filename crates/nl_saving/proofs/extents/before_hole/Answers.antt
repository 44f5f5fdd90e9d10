use Rattle.std.proofs.Common.{◌≡◌, ◌+◌, ◌-◌, ap, arith, length, min, subst, sym, true, false}
use Rattle.nl_saving.specs.Extents.{IsBound}
use Rattle.nl_saving.proofs.UnitBounds.{more_full, next_or_end}
use Rattle.nl_saving.proofs.extents.before_hole.Goals as goal

pub loop-at-preserved : goal.loop-at-preserved
loop-at-preserved c =
    let bytes = c.args.bytes.now in
    let place = c.loop-at.at in
    let bound = c.loop-at.invariant.bound in
    let further : place + min 4096 (length bytes - place) ≡ place + c.min-at.result =
    ap (λ n. place + n) (sym c.min-at.ensures) in
    record {
      ascends = omega arith;
      full =
          more_full bytes c.args.from place c.min-at.result bound c.loop-at-test.true (omega arith)
          c.loop-at.invariant.full
          (λ hole. let no : false ≡ true = c.if-not-has_hole.ensures.hole.1 hole in cc);
      bound =
          subst (IsBound (length bytes)) further
          (next_or_end (length bytes) place bound c.loop-at-test.true);
    }
