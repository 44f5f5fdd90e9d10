use Rattle.nl_backups.proofs.SumFiles.{exact_file}
use Rattle.nl_backups.proofs.summed.beside_file.Goals as goal

pub returns-in-Text-clause-exact : goal.returns-in-Text-clause-exact
returns-in-Text-clause-exact c =
    exact_file c.beside_text.result c.args.image.now c.args.file.now _ c.as_slice.result.now c.in-Text.is
    c.as_slice.ensures c.beside_text.ensures.exact
