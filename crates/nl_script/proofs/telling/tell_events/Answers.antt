use Rattle.std.proofs.Common.{◌<◌, ℕ, subst}
use Rattle.nl_script.proofs.OutcomeLists.{all_outcomes-drop}
use Rattle.nl_script.proofs.TellingsJoined.{told_first-more}
use Rattle.nl_script.proofs.telling.tell_events.Goals as goal

pub loop-index-preserved : goal.loop-index-preserved
loop-index-preserved g c =
    let i = c.loop-index.index in
    let answered = subst (λ (n : ℕ). i < n) c.requires c.loop-index-test.true in
    let next =
    all_outcomes-drop c.args.events.now c.args.replies.now i c.index-events-index.result
    c.index-replies-index.result
    c.loop-index-test.true answered c.index-events-index.is c.index-replies-index.is in
    told_first-more _ _ _ _ _ _ _ _ _ _ _ _ next c.loop-index.invariant c.tell_event-told.ensures
