use Rattle.std.proofs.Common.{ltb, rules}
use Rattle.std.proofs.lemmas.List.Sorted.{IsPartitionPoint-from_clause, IsPartitionedBy-ltb}
use Rattle.nl_protect.proofs.Kept.{rising-numbers, taken}
use Rattle.nl_protect.proofs.protection.ending_before.Goals as goal

pub returns : goal.returns
returns c =
    let kept = c.args.kept.now in
    taken c.args.end kept c.partition_point.result
    (IsPartitionPoint-from_clause (λ p. ltb p.number c.args.end) kept _ c.partition_point.ensures.partitioned
    (IsPartitionedBy-ltb (λ p. p.number) kept c.args.end (rising-numbers kept c.requires))
    (λ a r q k. search rules))
