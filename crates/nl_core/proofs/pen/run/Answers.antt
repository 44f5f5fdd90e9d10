use Rattle.std.proofs.Common.{◌≡◌, ◌+◌, [], ◌∷◌, ◌++◌, sym, ap, ◌∙◌, subst, take, arith}
use Rattle.std.specs.Prelude.{List}
use Rattle.std.proofs.lemmas.Grind.{common_steps}
use Rattle.std.proofs.lemmas.List.{take_more, take_all}
use Rattle.nl_types.specs.Plain.Runs.{Run}
use Rattle.nl_types.specs.Plain.Worlds.{Reply}
use Rattle.nl_types.specs.declared.event.Event.{Event}
use Rattle.nl_types.specs.Facts.Runs.{Run-more}
use Rattle.nl_commit.specs.Layout.{Does, unshared}
use Rattle.nl_commit.specs.Facts.Leading.{runs_lead_on}
use Rattle.nl_core.proofs.pen.run.Goals as goal

pub loop-event-preserved : goal.loop-event-preserved
loop-event-preserved g c =
    let i = c.loop-event.event-index in
    let events = c.args.events.now in
    let pushed : c.push.new.self.items ≡ c.loop-event.replies.items ++ c.apply-reply.result ∷ [] =
    grind (arith, common_steps) in
    let next : take (i + 1) events ≡ take i events ++ c.event-item.result ∷ [] =
    take_more events i c.event-item.result c.loop-event-test.true
    ∙ ap (λ e. take i events ++ e ∷ []) (sym c.event-item.is) in
    let old = c.args.pen.now in
    let now = c.apply-reply.new.self in
    record {
      count = grind (arith, common_steps);
      room = omega (arith, c.loop-event.invariant.room, c.push.ensures.capacity);
      so_far = subst (λ (es : List Event). Run (Does unshared) old es c.push.new.self.items now) (sym next)
          (subst
          (λ (rs : List Reply). Run (Does unshared) old (take i events ++ c.event-item.result ∷ []) rs now)
          (sym pushed)
          (Run-more (Does unshared) old c.loop-event.pen now
          (take i events) c.loop-event.replies.items c.event-item.result
          c.apply-reply.result c.loop-event.invariant.so_far c.apply-reply.ensures));
    }

pub returns-clause-worlds : goal.returns-clause-worlds
returns-clause-worlds g c =
    let events = c.args.events.now in
    let all : take c.loop-event.event-index events ≡ events =
    take_all c.loop-event.event-index events (omega arith) in
    runs_lead_on unshared c.args.pen.now c.loop-event.pen events c.loop-event.replies.items
    (subst
    (λ (es : List Event). Run (Does unshared) c.args.pen.now es c.loop-event.replies.items c.loop-event.pen)
    all c.loop-event.invariant.so_far)
