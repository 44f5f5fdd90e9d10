use Rattle.nl_trials.proofs.tests.backup.backups_are_of_one_moment.Given as goal

abbrev pub ghosts-backed_up : goal.ghosts-backed_up
ghosts-backed_up g a = record { book = λ id. a.opened.seen.book }
