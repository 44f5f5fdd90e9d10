use Rattle.nl_keep_pen.proofs.history.is_change.Goals as goal

pub returns-in-Some-clause-change : goal.returns-in-Some-clause-change
returns-in-Some-clause-change g c = rw c.in-Some.is c.differ_below.ensures.differ

pub returns-in-Some-clause-refused : goal.returns-in-Some-clause-refused
returns-in-Some-clause-refused g c = rw c.in-Some.is c.differ_below.ensures.refused

pub returns-in-None-clause-change : goal.returns-in-None-clause-change
returns-in-None-clause-change g c = rw c.in-None.is c.shows_anything.ensures.shows

pub returns-in-None-clause-refused : goal.returns-in-None-clause-refused
returns-in-None-clause-refused g c = rw c.in-None.is c.shows_anything.ensures.refused
