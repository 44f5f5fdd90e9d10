use Rattle.nl_types.proofs.Listings.{rows_tell_of_copies, rows_follow_removals, rows_follow_modes}
use Rattle.nl_types.proofs.laws.rows_follow_copies.Goals as goal

pub returns-clause-told : goal.returns-clause-told
returns-clause-told c = rows_tell_of_copies

pub returns-clause-removals : goal.returns-clause-removals
returns-clause-removals c = rows_follow_removals

pub returns-clause-modes : goal.returns-clause-modes
returns-clause-modes c = rows_follow_modes
