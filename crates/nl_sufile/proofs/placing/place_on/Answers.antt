use Rattle.std.proofs.Common.{◌≡◌, [], arith, append-nil, refl}
use Rattle.nl_types.specs.Facts.GoingOn.{fill}
use Rattle.nl_sufile.proofs.NextLog.{onward_more, only_more, nowhere_on, next_fits, go_on_nil}
use Rattle.nl_sufile.proofs.placing.place_on.Goals as goal

pub returns-in_default-clause-none : goal.returns-in_default-clause-none
returns-in_default-clause-none c = λ _ logs g.
    let more = c.loop-rest.invariant.only logs g in
    nowhere_on _ _ _ _ more.0 c.in_default.ensures c.loop-rest-test.true more.2

pub loop-rest-preserved : goal.loop-rest-preserved
loop-rest-preserved c =
    let e : c.min-count.result ≡ fill c.args.blocks c.in-Some.place c.loop-rest.rest =
    omega (arith, c.min-count.ensures, c.min-room.ensures) in
    record {
      inside =
          (let fits = next_fits _ c.args.blocks c.loop-rest.left c.loop-rest.free c.in-Some.place
          c.next_place.new.free refl c.in-Some.ensures c.requires.few in
          omega (arith, c.min-count.ensures, c.min-room.ensures, fits));
      onward =
          onward_more _ _ _ _ _ _ _ c.in-Some.place _ _ _ _ e c.in_ok-push.ensures.items c.in-Some.ensures
          c.loop-rest-test.true c.requires.few c.loop-rest.invariant.onward;
      only =
          only_more _ _ _ _ _ _ _ c.in-Some.place _ _ _ _ e c.in_ok-push.ensures.items c.in-Some.ensures
          c.loop-rest-test.true c.loop-rest.invariant.only;
    }

pub returns-clause-fits : goal.returns-clause-fits
returns-clause-fits c =
    rw (← append-nil c.loop-rest.logs.items)
    (c.loop-rest.invariant.onward [] (go_on_nil _ _ _ _ c.loop-rest-test.false))
