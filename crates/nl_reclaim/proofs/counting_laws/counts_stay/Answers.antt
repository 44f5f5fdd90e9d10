use Rattle.nl_reclaim.proofs.SegmentsOf.{follow-laws}
use Rattle.nl_reclaim.proofs.StayingCounts.{empty-checkpoints-keep, reads-keep, retirements-keep}
use Rattle.nl_reclaim.proofs.counting_laws.counts_stay.Goals as goal

pub returns-clause-retired : goal.returns-clause-retired
returns-clause-retired c =
    retirements-keep
    (follow-laws c.counts_follow_blocks.ensures.added c.counts_follow_blocks.ensures.taken
    c.counts_follow_blocks.ensures.few c.counts_follow_blocks.ensures.some)
    c.needed_numbers_are_counted.ensures

pub returns-clause-empty : goal.returns-clause-empty
returns-clause-empty c =
    empty-checkpoints-keep c.needed_numbers_are_counted.ensures c.checkpoints_keep_needs.ensures
    c.writes_are_by_number.ensures

pub returns-clause-read : goal.returns-clause-read
returns-clause-read c = reads-keep c.needed_numbers_are_counted.ensures
