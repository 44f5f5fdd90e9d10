use Rattle.nl_keep_pen.proofs.Brought.{bringing_keeps_through}
use Rattle.nl_keep_pen.proofs.Runs.{backups_keep_through, forgets_keep_through}
use Rattle.nl_keep_pen.proofs.laws.runs_keep_checkpoints.Goals as goal

pub returns : goal.returns
returns c = record {
  backups = backups_keep_through c.stores_keep_copies.ensures;
  forgets = forgets_keep_through c.forgets_keep_others.ensures.others;
  bringing = bringing_keeps_through c.stores_keep_copies.ensures;
}
