use Rattle.nl_backups.proofs.Repinned.{is_repinned}
use Rattle.nl_backups.proofs.pinning.repinned.Goals as goal

pub returns-clause-tree : goal.returns-clause-tree
returns-clause-tree c image of =
    is_repinned c.args.pins.lines c.in_ok-earlier.earlier c.in_ok-rest.rest c.in_ok-with_pins.field-0
    c.in_ok-file.file image (c.in_ok-earlier.ensures.tree image of) c.in_ok-rest.ensures c.in_ok-file.ensures
    c.in_ok-with_pins.ensures
