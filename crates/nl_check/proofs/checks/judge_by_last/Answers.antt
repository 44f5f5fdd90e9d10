use Rattle.nl_check.specs.Facts.Below.{both}
use Rattle.nl_check.proofs.JudgedCheckpoints.{judged, last-judged}
use Rattle.nl_check.proofs.checks.judge_by_last.Goals as goal

pub returns : goal.returns
returns g c =
    let pages = g.V.VRead.pages c.args.image.now.store.now in
    let periods = g.V.VRead.periods c.args.image.now.store.now in
    let good = c.requires.good in
    record {
      judged =
          judged pages periods c.args.entry.now c.args.found.now.met c.args.before.now _ good.known
          (λ e. (e, good.tree e)) c.are_still_of_periods_since-periods.ensures.yes
          (λ e was t. both c.args.before.now.trees was e)
          c.are_still_of_periods_since-periods.ensures.no;
      last =
          last-judged pages periods c.args.entry.now c.args.found.now.met c.args.before.now _ good.known
          (λ e. (e, good.tree e)) c.are_still_of_periods_since-periods.ensures.yes
          c.args.found.now.kinds good.sound;
    }
