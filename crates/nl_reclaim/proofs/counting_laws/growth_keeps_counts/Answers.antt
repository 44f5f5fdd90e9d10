use Rattle.nl_reclaim.proofs.GrownNeeded.{growth-back, growth-keeps, growth-refused}
use Rattle.nl_reclaim.proofs.counting_laws.growth_keeps_counts.Goals as goal

pub returns-clause-grown : goal.returns-clause-grown
returns-clause-grown c =
    growth-keeps c.counts_follow_blocks.ensures.grown c.needed_numbers_are_counted.ensures

pub returns-clause-refused : goal.returns-clause-refused
returns-clause-refused c = growth-refused c.needed_numbers_are_counted.ensures

pub returns-clause-back : goal.returns-clause-back
returns-clause-back c = growth-back
