use Rattle.std.proofs.Common.{subst}
use Rattle.std.proofs.lemmas.Result.{err_from_is_err_and}
use Rattle.nl_folders.specs.Plans.{GoesOn}
use Rattle.nl_keep.proofs.Calls.{made_all, made_more, made_none}
use Rattle.nl_keep.proofs.StoreRefusals.{plan_refused}
use Rattle.nl_keep.proofs.making.make.Goals as goal

pub loop-plan-init : goal.loop-plan-init
loop-plan-init g c =
    made_none c.args.present.now c.args.wanted.now c.in_ok-plan.plan.progress
    (g.V.Volume.means c.args.volume.now) c.in_ok-plan.ensures.begins
    (c.in_ok-plan.ensures.reached c.requires.present c.requires.wanted)

pub loop-plan-preserved : goal.loop-plan-preserved
loop-plan-preserved g c =
    let old = c.loop-plan.plan.progress in
    let new = c.next.new.self.progress in
    made_more c.args.present.now c.args.wanted.now old new c.loop-plan.cost c.with_more-cost.result
    c.as_slice.result.now c.in-Some.calls (g.V.Volume.means c.args.volume.now)
    (g.V.Volume.means c.loop-plan.volume) (g.V.Volume.means c.apply_all.new.volume) c.loop-plan.invariant
    (subst (GoesOn old new) c.in-Some.is c.in_ok-calls.ensures.goes_on)
    (c.in_ok-calls.ensures.present, c.in_ok-calls.ensures.wanted) c.in_ok-apply_all.ensures.done c.as_slice.ensures
    c.with_more-cost.ensures

pub returns-clause-made : goal.returns-clause-made
returns-clause-made g c =
    made_all c.args.present.now c.args.wanted.now c.loop-plan.plan.progress c.next.new.self.progress
    c.loop-plan.cost (g.V.Volume.means c.args.volume.now) (g.V.Volume.means c.loop-plan.volume)
    c.requires.wanted.is_tree c.loop-plan.invariant
    (subst (GoesOn c.loop-plan.plan.progress c.next.new.self.progress) c.in_default.is
    c.in_ok-calls.ensures.goes_on)

pub returns-in_err-apply_all-clause-refused : goal.returns-in_err-apply_all-clause-refused
returns-in_err-apply_all-clause-refused g c =
    let exits = c.from_residual-in_err-apply_all in
    let p = err_from_is_err_and exits.result exits.ensures.1 in
    let old = c.loop-plan.plan.progress in
    let new = c.next.new.self.progress in
    rw (p.1, p.2)
    (plan_refused c.args.present.now c.args.wanted.now old new c.loop-plan.cost c.in-Some.calls
    c.in_err-apply_all.field-0.0 (g.V.Volume.means c.args.volume.now) (g.V.Volume.means c.loop-plan.volume)
    c.loop-plan.invariant (subst (GoesOn old new) c.in-Some.is c.in_ok-calls.ensures.goes_on)
    c.in_err-apply_all.ensures.refused)
