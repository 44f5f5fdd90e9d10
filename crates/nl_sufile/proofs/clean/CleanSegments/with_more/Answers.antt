use Rattle.nl_sufile.proofs.CleanCounts.{tells-more}
use Rattle.nl_sufile.proofs.clean.CleanSegments.with_more.Goals as goal

pub returns : goal.returns
returns c = λ each tells.
    tells-more c.growing_keeps_segments.ensures.infos c.growing_keeps_segments.ensures.clean each c.args.self
    c.args.more tells
