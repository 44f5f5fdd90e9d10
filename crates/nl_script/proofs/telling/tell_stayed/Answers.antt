use Rattle.nl_script.proofs.OutcomeLists.{stays_outcomes-drop}
use Rattle.nl_script.proofs.TellingsJoined.{told_first-more}
use Rattle.nl_script.proofs.telling.tell_stayed.Goals as goal

pub loop-stays-preserved : goal.loop-stays-preserved
loop-stays-preserved g c =
    let next =
    stays_outcomes-drop c.args.stayed.now c.loop-stays.stays-index c.stays-item.result
    c.loop-stays-test.true c.stays-item.is in
    told_first-more _ _ _ _ _ _ _ _ _ _ _ _ next c.loop-stays.invariant c.tell_stays-told.ensures
