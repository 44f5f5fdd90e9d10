use Rattle.std.proofs.Common.{◌≡◌, ◌+◌, [], ◌∷◌, ◌++◌, take, arith, sym, ap, ◌∙◌}
use Rattle.std.proofs.lemmas.Grind.{common_steps}
use Rattle.std.proofs.lemmas.List.{take_more}
use Rattle.nl_types.specs.Facts.Runs.{Run-more}
use Rattle.nl_model.specs.Model.{ModelStep}
use Rattle.nl_model.proofs.runs.run.Goals as goal

pub loop-event-preserved : goal.loop-event-preserved
loop-event-preserved c =
    let i = c.loop-event.event-index in
    let pushed : c.push.new.self.items ≡ c.loop-event.replies.items ++ c.apply-reply.result ∷ [] =
    grind (arith, common_steps) in
    let next : take (i + 1) c.args.events.now ≡ take i c.args.events.now ++ c.event-item.result ∷ [] =
    take_more _ _ c.event-item.result c.loop-event-test.true
    ∙ ap (λ e. take i c.args.events.now ++ e ∷ []) (sym c.event-item.is) in (
      grind (arith, common_steps),
      grind (arith, common_steps),
      rw (next, pushed) (Run-more ModelStep _ _ _ _ _ _ _ c.loop-event.invariant.2 c.apply-reply.ensures),
    )
