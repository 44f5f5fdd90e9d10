use Rattle.nl_trials.proofs.bench.run.Given as goal

abbrev pub ghosts-work : goal.ghosts-work
ghosts-work g a = record { book = λ id. a.opened.seen.book }
