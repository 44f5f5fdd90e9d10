use Rattle.nl_backups.proofs.Verdicts.{tells_sound}
use Rattle.nl_backups.proofs.checking.verdict_of.Goals as goal

pub returns-clause-verdict : goal.returns-clause-verdict
returns-clause-verdict c = record {
  failing = c.in_ok-failing.ensures.failing;
  is_beside = c.in_ok-beside.ensures.beside;
  judged = c.in_ok-judged.ensures;
  sound = tells_sound c.args.image.now c.args.file.now _ c.in_ok-failing.ensures.failing c.in_ok-beside.ensures.exact;
}
