use Rattle.std.proofs.Common.{rules, leb}
use Rattle.std.proofs.lemmas.List.Sorted.{IsPartitionPoint-from_clause, IsPartitionedBy-leb}
use Rattle.nl_check.specs.Private.Turns.{checkpoint_of}
use Rattle.nl_check.proofs.turns.reach.Goals as goal

pub returns-clause-point : goal.returns-clause-point
returns-clause-point c =
    IsPartitionPoint-from_clause
    (λ t. leb (checkpoint_of t) c.args.checkpoint) c.args.turns.now _ c.partition_point.ensures.partitioned
    (IsPartitionedBy-leb checkpoint_of c.args.turns.now c.args.checkpoint c.requires)
    (λ a r q k. search rules)
