use Rattle.nl_image.proofs.TableConditions.{have_tables, numbers-refused, room-for-numbers}
use Rattle.nl_image.proofs.tables.read_all_numbers.Goals as goal

pub read_numbers-requires : goal.read_numbers-requires
read_numbers-requires c =
    room-for-numbers c.args.sections.now c.requires.sectioned c.args.segments.now c.args.kept.now
    c.requires.checkpoints

pub returns-clause-found : goal.returns-clause-found
returns-clause-found c =
    have_tables c.args.sections.now c.requires.sectioned c.args.segments.now c.args.kept.now
    c.requires.checkpoints c.last_number.result c.last_number.ensures c.read_numbers.result
    c.read_numbers.ensures.found c.read_numbers.ensures.only

pub returns-clause-refused : goal.returns-clause-refused
returns-clause-refused c =
    numbers-refused c.args.sections.now c.requires.sectioned c.args.segments.now c.args.kept.now
    c.requires.checkpoints c.last_number.result c.last_number.ensures c.read_numbers.result
    c.read_numbers.ensures.only c.read_numbers.ensures.refused
