use Rattle.std.proofs.Common.{◌≡◌, ◌∙◌, ◌-◌, arith, length}
use Rattle.nl_host.proofs.Askings.{Asked-next}
use Rattle.nl_host.proofs.Places.{first_asked, shorter_by_one}
use Rattle.nl_host.proofs.putting.Putting.leave_all.Goals as goal

pub loop-preserved : goal.loop-preserved
loop-preserved g c =
    let so_far = c.loop.invariant in
    let depth = so_far.depth in
    let shorter = shorter_by_one _ _ c.leave.ensures.up in
    record {
      stands = c.leave.ensures.stands;
      tree = c.leave.ensures.tree ∙ so_far.tree;
      depth = omega arith;
      asked = Asked-next _ _ _ _ _ _ so_far.tree so_far.asked c.leave.ensures.asked;
      refused = c.leave.ensures.refused ∙ so_far.refused;
    }

pub returns-in_err-finish-clause-asked : goal.returns-in_err-finish-clause-asked
returns-in_err-finish-clause-asked g c =
    let so_far = c.loop.invariant in
    let depth = so_far.depth in
    let deep = c.requires.depth in
    let none : length c.loop.self.here.now ≡ 0 = omega arith in
    Asked-next _ _ _ _ _ _ so_far.tree so_far.asked (first_asked _ _ _ _ _ _ _ so_far.stands none c.finish.ensures.asked)

pub returns-clause-asked : goal.returns-clause-asked
returns-clause-asked g c =
    let so_far = c.loop.invariant in
    let depth = so_far.depth in
    let deep = c.requires.depth in
    let none : length c.loop.self.here.now ≡ 0 = omega arith in
    Asked-next _ _ _ _ _ _ so_far.tree so_far.asked (first_asked _ _ _ _ _ _ _ so_far.stands none c.finish.ensures.asked)
