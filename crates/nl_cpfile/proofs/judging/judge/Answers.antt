use Rattle.nl_cpfile.proofs.Ranges.{judged-push}
use Rattle.nl_cpfile.proofs.judging.judge.Goals as goal

pub returns : goal.returns
returns c =
    judged-push c.args.latest.now.number c.args.first c.args.last c.args.earlier.now c.args.latest.now _ _
    c.in_ok-range.ensures
    c.in_ok-judge_one.ensures
