use Rattle.std.proofs.Common.{rules, arith, ap, ◌≡◌, ◌<◌, ◌∙◌, length}
use Rattle.nl_publish.specs.Jobs.{idle}
use Rattle.nl_publish.proofs.Lanes.{first_all, first_of, first_on, first_same, map_on}
use Rattle.nl_publish.proofs.many.fill_lanes.Goals as goal

pub loop-index-preserved : goal.loop-index-preserved
loop-index-preserved g c =
    let r = g.P.FileReader in let old = c.args.readers.now in let readers = c.loop-index.readers in
    let i = c.loop-index.index in let reader = c.index-readers-index.result in
    let less : i < length old =
    (let t = c.loop-index-test.true in let n = c.loop-index.invariant.same in omega arith) in
    record {
      same = search rules;
      readers =
          first_on r.left old readers i reader c.new.new.reader c.loop-index.invariant.readers less
          c.new.ensures.left;
      count = search rules;
      room = search rules;
      lanes = c.push_reserved.ensures.items
          ∙ map_on (idle r.taken) old c.loop-index.lanes.items i reader c.new.result
          c.loop-index.invariant.lanes less
          (c.new.ensures.lane
          ∙ ap (idle r.taken) (first_same r.left old readers i reader c.loop-index.invariant.readers));
    }

pub returns-clause-readers : goal.returns-clause-readers
returns-clause-readers g c =
    let left = g.P.FileReader.left in let old = c.args.readers.now in
    let done : c.loop-index.index ≡ length old =
    (let t = c.loop-index-test.false in let e = c.loop-index.auto.index-end in
    let n = c.loop-index.invariant.same in omega arith) in
    c.loop-index.invariant.readers ∙ (ap (λ n. first_of left n old) done ∙ first_all left old)
