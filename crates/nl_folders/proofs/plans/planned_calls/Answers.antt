use Rattle.std.proofs.Common.{◌++◌, List, ap, subst, ◌∙◌}
use Rattle.nl_types.specs.declared.event.Change.{Change}
use Rattle.nl_folders.proofs.Handing.{led_on}
use Rattle.nl_folders.specs.Plans.{GoesOn}
use Rattle.nl_folders.proofs.plans.planned_calls.Goals as goal

pub loop-all-preserved : goal.loop-all-preserved
loop-all-preserved c =
    let present = c.args.present.now in
    let wanted = c.args.wanted.now in
    let old = c.loop-all.plan.progress in
    let new = c.next.new.self.progress in
    let so_far = c.loop-all.invariant in
    record {
      present = c.in_ok-calls.ensures.present ∙ so_far.present;
      wanted = c.in_ok-calls.ensures.wanted ∙ so_far.wanted;
      led = λ p w.
          led_on present wanted old new c.loop-all.all c.in-Some.calls c.append.new.self so_far.present
          so_far.wanted (so_far.led p w) (subst (GoesOn old new) c.in-Some.is c.in_ok-calls.ensures.goes_on)
          (c.in_ok-append.ensures.ok
          ∙ ap (λ (more : List Change). c.loop-all.all ++ more) c.into_vec.ensures);
    }
