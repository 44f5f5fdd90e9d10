use Rattle.std.proofs.Common.{◌≡◌, ◌∙◌, ◌+◌, ◌*◌, ℕ, suc, arith, subst}
use Rattle.std.proofs.lemmas.Result.{err_from_is_err_and}
use Rattle.nl_blocktree.specs.Walked.{HasMet}
use Rattle.nl_blocktree.specs.Private.Walks.{IsVisited}
use Rattle.nl_blocktree.proofs.MetChains.{met-data, no-data, slot-fewer}
use Rattle.nl_blocktree.proofs.walking.meet_data.Goals as goal

pub returns-in_err-meet_slot-clause-refused : goal.returns-in_err-meet_slot-clause-refused
returns-in_err-meet_slot-clause-refused g c =
    let exits = err_from_is_err_and c.from_residual.result c.from_residual.ensures.1 in
    rw (exits.1, exits.2) (λ root p old kind node m.
    let slot_refused = c.in_err-meet_slot.ensures.no in
    no-data (g.V.VRead.pages c.args.store.now) root old p c.loop-slot.slot slot_refused.0 c.args.page.now
    c.loop-slot.met c.in_err-meet_slot.field-0.0 kind node c.loop-slot-test.true slot_refused.1 slot_refused.2
    (c.loop-slot.invariant.walked root p old kind node m))

pub loop-slot-preserved : goal.loop-slot-preserved
loop-slot-preserved g c =
    let pages = g.V.VRead.pages c.args.store.now in
    let meets = c.in_ok-meet_slot.ensures.yes in
    record {
      within = λ v s.
          let low = c.loop-slot.invariant.within v s in omega (arith, low, c.in_ok-meet_slot.ensures.count);
      same_count = c.in_ok-meet_slot.ensures.count ∙ c.loop-slot.invariant.same_count;
      fewer =
          let less =
          slot-fewer pages c.loop-slot.slot c.args.page.now c.loop-slot.met c.meet_slot.new.met meets in
          let before = c.loop-slot.invariant.fewer in
          omega (arith, less, before);
      walked = λ root p old kind node m.
          met-data pages root old p c.loop-slot.slot c.args.page.now c.loop-slot.met c.meet_slot.new.met kind
          node c.loop-slot-test.true meets
          (c.loop-slot.invariant.walked root p old kind node m);
    }

pub returns-clause-yes : goal.returns-clause-yes
returns-clause-yes g c = λ root p old kind node m.
    let done : c.loop-slot.slot ≡ 127 = omega (arith, c.loop-slot-test.false, c.loop-slot.auto.slot-end) in
    subst (λ (s : ℕ).
    HasMet (g.V.VRead.pages c.args.store.now) root (IsVisited (suc p) (127 * p + s)) old c.loop-slot.met)
    done
    (c.loop-slot.invariant.walked root p old kind node m)
