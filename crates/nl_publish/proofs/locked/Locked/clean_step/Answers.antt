use Rattle.std.proofs.Common.{◌≡◌, ◌∙◌, refl, sym, subst, Some}
use Rattle.nl_types.specs.declared.event.Event.{Event}
use Rattle.nl_commit.specs.Layout.{Layout}
use Rattle.nl_publish.specs.Cleaning.{Stepped}
use Rattle.nl_publish.proofs.Running.{goes_by_still, stepped_tried}
use Rattle.nl_publish.proofs.locked.Locked.clean_step.Goals as goal

pub returns : goal.returns
returns g c =
    let event : Event = c.in_ok-event.event in
    let next : g.G.Round.habits.next c.args.round.now c.begin.new.self.layout ≡ Some event =
    subst (λ (l : Layout). g.G.Round.habits.next c.args.round.now l ≡ Some event) c.pen.ensures
    (sym c.next.ensures ∙ c.in_ok-event.was) in
    Stepped c.begin.new.self event c.run_own-reply.result c.in_default.ensures.begun next
    (goes_by_still c.begin.new.self c.run_own-reply.new.self c.publish_pending.new.self event c.run_own-reply.result
    c.run_own-reply.ensures c.publish_pending.ensures.sent)
    refl c.note-2.ensures
    (stepped_tried c.args.self.now c.begin.new.self c.run_own-reply.new.self c.publish_pending.new.self event
    c.run_own-reply.result c.in_default.ensures.begun c.run_own-reply.ensures c.publish_pending.ensures.tried)
