use Rattle.nl_image.specs.Facts.ReadParts.{are-read}
use Rattle.nl_image.proofs.Restoring.{can-be-restored}
use Rattle.nl_image.proofs.reading.read_image.Goals as goal

pub returns-clause-found : goal.returns-clause-found
returns-clause-found c =
    are-read c.in_ok-sections.sections c.in_ok-tables.tables c.in_ok-sections.ensures.found
    c.in_ok-tables.ensures.found c.in_ok-tables.ensures.numbered c.in_ok-logs.logs
    c.in_ok-logs.ensures.found c.in_ok-logs.ensures.image c.args.bytes.now c.in_ok-sections.ensures.image

pub returns-clause-restores : goal.returns-clause-restores
returns-clause-restores c = can-be-restored c.args.bytes.now _ (returns-clause-found c)
