use Rattle.std.proofs.Common.{rules, leb}
use Rattle.std.proofs.lemmas.List.Sorted.{IsPartitionPoint-from_clause, IsPartitionedBy-leb}
use Rattle.nl_reclaim.specs.EndLists.{end_of}
use Rattle.nl_reclaim.proofs.ends.reach.Goals as goal

pub returns-clause-point : goal.returns-clause-point
returns-clause-point c =
    IsPartitionPoint-from_clause
    (λ p. leb (end_of p) c.args.bound) c.args.ended.now _ c.partition_point.ensures.partitioned
    (IsPartitionedBy-leb end_of c.args.ended.now c.args.bound c.requires) (λ a r q k. search rules)
