use Rattle.std.proofs.Common.{◌≡◌, ◌-◌, ◌∙◌, length, drop, ltb, arith, rules, length-drop}
use Rattle.std.proofs.lemmas.List.{take_all}
use Rattle.std.proofs.lemmas.List.Sorted.{IsPartitionPoint-from_clause, IsPartitionedBy-ltb}
use Rattle.nl_protect.proofs.Kept.{dropped, rising-numbers}
use Rattle.nl_protect.proofs.protection.beginning_at.Goals as goal

pub returns : goal.returns
returns c =
    let kept = c.args.kept.now in
    let rest : length (drop c.partition_point.result kept) ≡ length kept - c.partition_point.result =
    length-drop c.partition_point.result kept in
    take_all (length kept - c.partition_point.result) (drop c.partition_point.result kept)
    (omega (arith, rest))
    ∙ dropped c.args.first kept c.partition_point.result
    (IsPartitionPoint-from_clause
    (λ p. ltb p.number c.args.first) kept _ c.partition_point.ensures.partitioned
    (IsPartitionedBy-ltb (λ p. p.number) kept c.args.first (rising-numbers kept c.requires))
    (λ a r q k. search rules))
