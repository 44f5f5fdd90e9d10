use Rattle.nl_image.proofs.TableConditions.{checkpoints-refused, have_checkpoints}
use Rattle.nl_image.proofs.tables.read_kept.Goals as goal

pub returns-clause-found : goal.returns-clause-found
returns-clause-found c =
    have_checkpoints c.args.sections.now c.requires.sectioned c.args.segments.now c.requires.segments
    c.read_checkpoints.result c.read_checkpoints.ensures.found c.read_checkpoints.ensures.only

pub returns-clause-refused : goal.returns-clause-refused
returns-clause-refused c =
    checkpoints-refused c.args.sections.now c.requires.sectioned c.args.segments.now c.requires.segments
    c.read_checkpoints.result c.read_checkpoints.ensures.only c.read_checkpoints.ensures.refused
