use Rattle.nl_types.specs.Facts.Expiries.{expiries_answer_expiring, expiries_are_removals, expiries_take_expiring}
use Rattle.nl_types.proofs.laws.expiries_are_removals.Goals as goal

pub returns-clause-taken : goal.returns-clause-taken
returns-clause-taken c = expiries_take_expiring

pub returns-clause-answered : goal.returns-clause-answered
returns-clause-answered c = expiries_answer_expiring

pub returns-clause-removals : goal.returns-clause-removals
returns-clause-removals c = expiries_are_removals
