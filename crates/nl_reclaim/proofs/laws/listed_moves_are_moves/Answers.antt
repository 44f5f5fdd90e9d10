use Rattle.nl_reclaim.proofs.Listed.{listed-moves-are-first, refused-lists-are-none, refused-moves-are-none}
use Rattle.nl_reclaim.proofs.laws.listed_moves_are_moves.Goals as goal

pub returns-clause-moved : goal.returns-clause-moved
returns-clause-moved c = listed-moves-are-first

pub returns-clause-refused : goal.returns-clause-refused
returns-clause-refused c = refused-moves-are-none

pub returns-clause-unlisted : goal.returns-clause-unlisted
returns-clause-unlisted c = refused-lists-are-none
