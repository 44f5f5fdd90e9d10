use Rattle.nl_check.specs.Judging.{HasRoom, KnowsLast}
use Rattle.nl_check.proofs.JudgedCheckpoints.{AreJudged}
use Rattle.nl_check.proofs.checks.judge_all.Given as goal

abbrev pub invariant-loop-entry : goal.invariant-loop-entry
invariant-loop-entry g l =
    let pages = g.V.VRead.pages l.image.store.now in
    let periods = g.V.VRead.periods l.image.store.now in
    record {
      room : HasRoom pages periods l.found.met;
      last : KnowsLast pages periods l.found.met l.found.kinds l.judged;
      judged : AreJudged pages periods l.kept l.entry-index l.judged.trees l.judged.periods;
    }
