use Rattle.std.proofs.Common.{◌≡◌, ◌∙◌, arith}
use Rattle.nl_keep_pen.proofs.rounds.clean.Goals as goal

pub do_round-requires : goal.do_round-requires
do_round-requires g c =
    let moment : c.in_ok-job.job.moment ≡ c.protecting.result =
    c.in_ok-job.ensures.plan.moment ∙ c.new.ensures in
    let period : c.in_ok-job.job.period ≡ c.configuration-config.result.protection_period =
    c.in_ok-job.ensures.plan.period in
    omega arith

pub returns-clause-tidies : goal.returns-clause-tidies
returns-clause-tidies g c =
    let moment : c.in_ok-job.job.moment ≡ c.protecting.result =
    c.in_ok-job.ensures.plan.moment ∙ c.new.ensures in
    c.do_round.ensures c.args.moment (omega (arith, moment, c.protecting.ensures.early))
