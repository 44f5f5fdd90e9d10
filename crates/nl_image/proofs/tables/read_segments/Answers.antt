use Rattle.nl_image.proofs.TableConditions.{have_segments, length-segments, segments-refused}
use Rattle.nl_image.proofs.tables.read_segments.Goals as goal

pub restore-requires : goal.restore-requires
restore-requires c = length-segments c.args.sections.now c.requires

pub returns-clause-found : goal.returns-clause-found
returns-clause-found c =
    have_segments c.args.sections.now c.requires c.restore.result c.restore.ensures.found
    c.restore.ensures.only

pub returns-clause-refused : goal.returns-clause-refused
returns-clause-refused c =
    segments-refused c.args.sections.now c.requires c.restore.result c.restore.ensures.only
    c.restore.ensures.refused
