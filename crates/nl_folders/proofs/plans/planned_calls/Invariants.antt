use Rattle.std.proofs.Common.{◌≡◌}
use Rattle.nl_folders.proofs.Handing.{HaveLed}
use Rattle.nl_folders.specs.Spelled.{IsNameable}
use Rattle.nl_folders.proofs.plans.planned_calls.Given as goal

abbrev pub invariant-loop-all : goal.invariant-loop-all
invariant-loop-all l = record {
  present : l.plan.progress.present ≡ l.present;
  wanted : l.plan.progress.wanted ≡ l.wanted;
  led : IsNameable l.present → IsNameable l.wanted → HaveLed l.present l.wanted l.all l.plan.progress;
}

abbrev pub decreases-loop-all : goal.decreases-loop-all
decreases-loop-all l = l.plan.left
