use Rattle.nl_reclaim.specs.Facts.Reclaims.{retired-segments-are-unreached}
use Rattle.nl_reclaim.proofs.laws.retired_segments_are_unreached.Goals as goal

pub returns : goal.returns
returns c = retired-segments-are-unreached
