use Rattle.nl_image.specs.Facts.ReadParts.{whole-refused}
use Rattle.nl_image.proofs.logs.read_whole.Goals as goal

pub returns-clause-refused : goal.returns-clause-refused
returns-clause-refused c =
    whole-refused c.args.sections.now c.args.tables.now c.requires.sectioned c.requires.tables c.read.result
    c.read.ensures.only c.read.ensures.refused
