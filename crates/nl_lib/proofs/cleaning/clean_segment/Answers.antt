use Rattle.std.proofs.Common.{◌≡◌, false, suc, sym, subst}
use Rattle.nl_types.specs.Plain.Worlds.{Reply}
use Rattle.nl_commit.specs.Layout.{Does, unshared}
use Rattle.nl_lib.specs.CleanedSegments.{is_moved}
use Rattle.nl_lib.proofs.MovedAway.{fewer}
use Rattle.nl_lib.proofs.cleaning.clean_segment.Goals as goal

pub returns-in-Some : goal.returns-in-Some
returns-in-Some g c =
    let mid = c.loop-last.pen in
    let event = c.cleaning_event-event.result in
    let ends = c.in-Some.ensures.last in
    record {
      moves = c.loop-last.invariant.moved.0;
      mid = mid;
      moved = c.loop-last.invariant.moved.1;
      event = event;
      last = record {
        next = c.cleaning_event-event.ensures;
        does =
            subst (λ (r : Reply). Does unshared mid event r c.apply-reply.new.self) (sym ends.0)
            c.apply-reply.ensures;
      };
      ends = subst (λ (r : Reply). is_moved event r ≡ false) (sym ends.0) ends.1;
    }

pub loop-last-smaller : goal.loop-last-smaller
loop-last-smaller g c =
    fewer c.loop-last.pen c.apply-reply.new.self c.args.segment c.args.now c.cleaning_event-event.result
    c.apply-reply.result
    c.loop-last.invariant.held
    (record { next = c.cleaning_event-event.ensures; does = c.apply-reply.ensures })
    c.in_default.ensures.moved

pub loop-last-preserved : goal.loop-last-preserved
loop-last-preserved g c = record {
  held = c.apply-reply.ensures.pen;
  moved = (
    suc c.loop-last.invariant.moved.0,
    (
      c.loop-last.pen,
      c.cleaning_event-event.result,
      c.apply-reply.result,
      c.loop-last.invariant.moved.1,
      record { next = c.cleaning_event-event.ensures; does = c.apply-reply.ensures },
      c.in_default.ensures.moved,
    ),
  );
}
