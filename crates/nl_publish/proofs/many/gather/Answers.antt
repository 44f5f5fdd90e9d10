use Rattle.std.proofs.Common.{rules, arith, ap, refl, sym, subst, ◌≡◌, ◌<◌, ◌∙◌, length}
use Rattle.nl_publish.specs.Jobs.{ArePlaced}
use Rattle.nl_publish.proofs.Lanes.{back_all, back_on, back_same, emptied, first_back, first_on, first_same, lane_now, lane_over}
use Rattle.nl_publish.proofs.many.gather.Goals as goal

pub put_back-found-requires : goal.put_back-found-requires
put_back-found-requires g c =
    let r = g.P.FileReader in let m = c.args.mount.now in let jobs = c.args.jobs.now in
    let places = c.args.readers.now in let old = c.args.lanes.now in
    let readers = c.loop-index.readers in let lanes = c.loop-index.lanes in let i = c.loop-index.index in
    let reader = c.index-readers-index.result in let lane = c.index-lanes-index.result in
    let less : i < length places =
    (let t = c.loop-index-test.true in let n = c.loop-index.invariant.same in omega arith) in
    let over = lane_over r.known m jobs places old i reader lane less c.requires.lanes in
    (lane_now r.known m jobs _ _ _ _
    (back_same r.joined r.taken r.left places readers old i reader c.loop-index.invariant.readers)
    (first_same (emptied r.joined r.taken r.left) old lanes i lane c.loop-index.invariant.lanes) over).later

pub place-requires-clause-found : goal.place-requires-clause-found
place-requires-clause-found g c =
    let r = g.P.FileReader in let m = c.args.mount.now in let jobs = c.args.jobs.now in
    let places = c.args.readers.now in let old = c.args.lanes.now in
    let lanes = c.loop-index.lanes in let i = c.loop-index.index in
    let reader = c.index-readers-index.result in let lane = c.index-lanes-index.result in
    let less : i < length places =
    (let t = c.loop-index-test.true in let n = c.loop-index.invariant.same in omega arith) in
    let over = lane_over r.known m jobs places old i reader lane less c.requires.lanes in
    let placed =
    (lane_now r.known m jobs _ _ _ _ refl
    (first_same (emptied r.joined r.taken r.left) old lanes i lane c.loop-index.invariant.lanes) over).answers in
    subst (ArePlaced m jobs) (sym c.put_back-found.ensures.answers) placed

pub loop-index-preserved : goal.loop-index-preserved
loop-index-preserved g c =
    let r = g.P.FileReader in let places = c.args.readers.now in let old = c.args.lanes.now in
    let readers = c.loop-index.readers in let lanes = c.loop-index.lanes in let i = c.loop-index.index in
    let reader = c.index-readers-index.result in let lane = c.index-lanes-index.result in
    let less : i < length places =
    (let t = c.loop-index-test.true in let n = c.loop-index.invariant.same in omega arith) in
    let count = c.requires.count in
    record {
      count = search rules;
      same = search rules;
      readers =
          back_on r.joined r.taken r.left places readers old lanes i reader c.put_back-found.new.reader lane
          c.loop-index.invariant.readers c.loop-index.invariant.lanes less count
          c.put_back-found.ensures.reader;
      lanes =
          first_on (emptied r.joined r.taken r.left) old lanes i lane c.put_back-found.new.self
          c.loop-index.invariant.lanes (omega (arith, less, count))
          c.put_back-found.ensures.lane;
      answers = c.place.ensures;
    }

pub returns-clause-readers : goal.returns-clause-readers
returns-clause-readers g c =
    let r = g.P.FileReader in let places = c.args.readers.now in let old = c.args.lanes.now in
    let done : c.loop-index.index ≡ length places =
    (let t = c.loop-index-test.false in let e = c.loop-index.auto.index-end in
    let n = c.loop-index.invariant.same in omega arith) in
    c.loop-index.invariant.readers
    ∙ (ap (λ n. first_back r.joined r.taken r.left n places old) done
    ∙ back_all r.joined r.taken r.left places old c.requires.count)
