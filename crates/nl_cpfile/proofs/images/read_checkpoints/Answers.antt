use Rattle.nl_cpfile.specs.Facts.ImageEntries.{count_told}
use Rattle.nl_cpfile.proofs.images.read_checkpoints.Goals as goal

pub returns-then-are_known_to-clause-count : goal.returns-then-are_known_to-clause-count
returns-then-are_known_to-clause-count c =
    count_told c.args.bytes.now c.in_ok-kept.kept c.in_ok-kept.ensures.spelled
