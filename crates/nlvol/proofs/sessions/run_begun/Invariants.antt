use Rattle.nlvol.proofs.sessions.run_begun.Given as goal

abbrev pub ghosts-run_script : goal.ghosts-run_script
ghosts-run_script g a = record { book = λ id. a.opened.seen.book }
