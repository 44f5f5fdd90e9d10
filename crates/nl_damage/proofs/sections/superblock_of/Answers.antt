use Rattle.nl_damage.proofs.FirstConditions.{fails-within}
use Rattle.nl_damage.proofs.sections.superblock_of.Goals as goal

pub returns-in-Err-clause-only : goal.returns-in-Err-clause-only
returns-in-Err-clause-only c p meets =
    let fails = c.in-Err.ensures.refused in
    absurd (fails-within c.args.image.now fails.0 fails.1 fails.3 p meets)
