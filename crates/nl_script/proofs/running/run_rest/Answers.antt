use Rattle.std.proofs.Common.{◌≡◌, ◌+◌, ◌-◌, ◌∙◌, ◌++◌, ◌∷◌, [], List, length, take, drop, ap, sym, refl, subst, arith, append_assoc}
use Rattle.std.proofs.lemmas.Grind.{common_steps}
use Rattle.std.proofs.lemmas.List.{append-nil, take_all, take_more, take_rest}
use Rattle.nl_types.specs.Plain.Runs.{Run}
use Rattle.nl_types.specs.Plain.Worlds.{Reply}
use Rattle.nl_types.specs.declared.event.Event.{Event}
use Rattle.nl_types.specs.Facts.Runs.{Run-more}
use Rattle.nl_script.proofs.running.run_rest.Goals as goal

pub loop-event-init : goal.loop-event-init
loop-event-init g c = record {
  count = grind (arith, common_steps);
  room = grind (arith, common_steps);
  so_far = ([], c.reserve.ensures.items ∙ sym (append-nil c.args.replies.items), refl);
}

pub push_reserved-requires : goal.push_reserved-requires
push_reserved-requires g c = grind (arith, common_steps)

pub loop-event-preserved : goal.loop-event-preserved
loop-event-preserved g c =
    let i = c.loop-event.event-index in
    let rest = take (length c.args.events.now - c.len.result) (drop c.len.result c.args.events.now) in
    let next : take (i + 1) rest ≡ take i rest ++ c.event-item.result ∷ [] =
    take_more rest i c.event-item.result c.loop-event-test.true
    ∙ ap (λ (e : Event). take i rest ++ e ∷ []) (sym c.event-item.is) in
    let old = c.args.volume.now in
    let now = c.apply-reply.new.self in
    let done = c.loop-event.invariant.so_far in
    let reply = c.apply-reply.result in
    record {
      count = grind (arith, common_steps);
      room = grind (arith, common_steps);
      so_far = (
        done.0 ++ reply ∷ [],
        c.push_reserved.ensures.items ∙ ap (λ (rs : List Reply). rs ++ reply ∷ []) done.1
            ∙ append_assoc c.args.replies.items done.0 (reply ∷ []),
        subst (λ (es : List Event). Run g.V.Volume.habits.does old es (done.0 ++ reply ∷ []) now) (sym next)
            (Run-more g.V.Volume.habits.does old c.loop-event.volume now
            (take i rest) done.0 c.event-item.result reply done.2 c.apply-reply.ensures),
      );
    }

pub returns-clause-run : goal.returns-clause-run
returns-clause-run g c =
    let rest = take (length c.args.events.now - c.len.result) (drop c.len.result c.args.events.now) in
    let done = c.loop-event.invariant.so_far in
    let count : c.len.result ≡ length c.args.replies.items = grind (arith, common_steps) in
    let all : take c.loop-event.event-index rest ≡ drop (length c.args.replies.items) c.args.events.now =
    take_all c.loop-event.event-index rest (omega arith) ∙ take_rest c.args.events.now c.len.result
    ∙ ap (λ n. drop n c.args.events.now) count in (
      done.0,
      done.1,
      subst (λ (es : List Event). Run g.V.Volume.habits.does c.args.volume.now es done.0 c.loop-event.volume)
          all done.2,
    )
