use Rattle.nl_image.proofs.FirstConditions.{are-divided}
use Rattle.nl_image.proofs.geometry.geometry_of.Goals as goal

pub returns-clause-found : goal.returns-clause-found
returns-clause-found c =
    let d = c.in_ok-division.division in
    are-divided c.args.bytes.now d.geometry d.superblock c.in_ok-division.ensures.begins
    c.in_ok-division.ensures.shape
