use Rattle.std.proofs.Common.{◌≡◌, ℕ, ◌<◌, ◌≤◌}
use Rattle.nl_commit.specs.Layout.{MeansWorld}
use Rattle.nl_cleaner.specs.Job.{steps_left}
use Rattle.nl_keep.specs.Lasting.{OnlyTidies}
use Rattle.nl_keep.specs.Volumes.{LeadsTo}
use Rattle.nl_keep_pen.proofs.rounds.do_round.Given as goal

abbrev pub invariant-loop : goal.invariant-loop
invariant-loop g l = record {
  less : l.job.moment < l.job.period;
  same : l.job.moment ≡ l.fn.job.moment;
  tidies : (moment : ℕ) → l.fn.job.moment ≤ moment
      → LeadsTo (OnlyTidies moment) (MeansWorld l.fn.pen) (MeansWorld l.pen);
}

abbrev pub decreases-loop : goal.decreases-loop
decreases-loop g l = steps_left l.job l.pen
