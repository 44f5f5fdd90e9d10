use Rattle.nl_sufile.proofs.FollowedBlocks.{added-is-counted, counts-are-few, counts-change, taken-is-counted, taken-was-counted}
use Rattle.nl_sufile.proofs.GrownCounts.{grown-are-counted}
use Rattle.nl_sufile.proofs.laws.counts_follow_blocks.Goals as goal

pub returns-clause-changes : goal.returns-clause-changes
returns-clause-changes c = counts-change

pub returns-clause-added : goal.returns-clause-added
returns-clause-added c = added-is-counted

pub returns-clause-taken : goal.returns-clause-taken
returns-clause-taken c = taken-is-counted

pub returns-clause-few : goal.returns-clause-few
returns-clause-few c = counts-are-few

pub returns-clause-some : goal.returns-clause-some
returns-clause-some c = taken-was-counted

pub returns-clause-grown : goal.returns-clause-grown
returns-clause-grown c = grown-are-counted
