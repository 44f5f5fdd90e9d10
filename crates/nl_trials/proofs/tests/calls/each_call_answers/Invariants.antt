use Rattle.nl_trials.proofs.tests.calls.each_call_answers.Given as goal

abbrev pub ghosts-answered : goal.ghosts-answered
ghosts-answered g a = record { book = λ id. a.opened.seen.book }
