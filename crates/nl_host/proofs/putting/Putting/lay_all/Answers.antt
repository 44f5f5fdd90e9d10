use Rattle.std.proofs.Common.{◌≡◌, ◌∙◌, arith, vec_len}
use Rattle.nl_host.proofs.Walks.{asks_on, first_more}
use Rattle.nl_host.proofs.putting.Putting.lay_all.Goals as goal

pub returns-in_err-lay-clause-asked : goal.returns-in_err-lay-clause-asked
returns-in_err-lay-clause-asked g c =
    let so_far = c.loop-entry.invariant in
    asks_on _ _ _ _ _ so_far.tree so_far.asked c.lay.ensures.asked

pub loop-entry-preserved : goal.loop-entry-preserved
loop-entry-preserved g c =
    let so_far = c.loop-entry.invariant in
    let few = so_far.refused in
    let more = c.in_ok-lay.ensures.refused in
    record {
      stands = c.lay.ensures.stands;
      tree = c.lay.ensures.tree ∙ so_far.tree;
      asked = asks_on _ _ _ _ _ so_far.tree so_far.asked c.lay.ensures.asked;
      refused = omega arith;
      order = λ same walk.
          let before : vec_len c.loop-entry.laid.refused ≡ vec_len c.args.laid.now.refused = omega arith in
          let here : vec_len c.lay.new.laid.refused ≡ vec_len c.loop-entry.laid.refused = omega arith in
          first_more c.args.self.now.tree.now c.loop-entry.self.tree.now c.loop-entry.entry-index c.entry-item.result
          _ _ _ _ _ c.loop-entry-test.true c.entry-item.is so_far.tree (so_far.order before walk)
          (c.in_ok-lay.ensures.order here);
    }
