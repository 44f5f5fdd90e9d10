use Rattle.nl_trials.proofs.rows.volumes.do_again.Given as goal

abbrev pub ghosts-do_shared : goal.ghosts-do_shared
ghosts-do_shared g a = record { book = λ id. a.opened.seen.book }
