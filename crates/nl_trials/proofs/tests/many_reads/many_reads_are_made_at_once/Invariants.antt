use Rattle.nl_trials.proofs.tests.many_reads.many_reads_are_made_at_once.Given as goal

abbrev pub ghosts-many_reads : goal.ghosts-many_reads
ghosts-many_reads g a = record { book = λ id. a.opened.seen.book }
