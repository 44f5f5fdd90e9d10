use Rattle.nl_sufile.proofs.CleanCounts.{lowest-first}
use Rattle.nl_sufile.proofs.clean.CleanSegments.lowest.Goals as goal

pub returns : goal.returns
returns c =
    lowest-first c.args.each.now c.args.self c.pop_first.result c.first-free.result c.pop_first.new.self
    c.requires.tells c.first-free.ensures c.pop_first.ensures
