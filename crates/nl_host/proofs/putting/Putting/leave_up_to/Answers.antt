use Rattle.std.proofs.Common.{◌≡◌, ◌∙◌, false, subst, sym, true}
use Rattle.nl_types.specs.Plain.Paths.{Path, is_within}
use Rattle.nl_host.specs.Standing.{is_above}
use Rattle.nl_host.proofs.Askings.{Asked-next}
use Rattle.nl_host.proofs.Fronts.{front_kept}
use Rattle.nl_host.proofs.putting.Putting.leave_up_to.Goals as goal

pub loop-self-preserved : goal.loop-self-preserved
loop-self-preserved g c =
    let so_far = c.loop-self.invariant in
    let not_above : is_above c.loop-self.self.here.now c.args.path.now ≡ false =
    sym c.leads_to.ensures ∙ c.loop-self-test.true in
    record {
      stands = c.leave.ensures.stands;
      tree = c.leave.ensures.tree ∙ so_far.tree;
      asked = Asked-next _ _ _ _ _ _ so_far.tree so_far.asked c.leave.ensures.asked;
      refused = c.leave.ensures.refused ∙ so_far.refused;
      keeps = λ front before above.
          subst (λ (p : Path). is_within front p ≡ true) (sym c.leave.ensures.up)
          (front_kept front c.loop-self.self.here.now c.args.path.now (so_far.keeps front before above) not_above above);
    }

pub returns-in_err-leave-clause-asked : goal.returns-in_err-leave-clause-asked
returns-in_err-leave-clause-asked g c =
    let so_far = c.loop-self.invariant in
    Asked-next _ _ _ _ _ _ so_far.tree so_far.asked c.leave.ensures.asked

pub returns-in_err-leave-clause-keeps : goal.returns-in_err-leave-clause-keeps
returns-in_err-leave-clause-keeps g c =
    let so_far = c.loop-self.invariant in
    let not_above : is_above c.loop-self.self.here.now c.args.path.now ≡ false =
    sym c.leads_to.ensures ∙ c.loop-self-test.true in
    λ front before above.
    subst (λ (p : Path). is_within front p ≡ true) (sym c.leave.ensures.up)
    (front_kept front c.loop-self.self.here.now c.args.path.now (so_far.keeps front before above) not_above above)
