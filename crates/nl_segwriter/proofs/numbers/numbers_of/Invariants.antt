use Rattle.std.proofs.Common.{◌≡◌, ◌+◌, ◌≤◌, ◌++◌, drop}
use Rattle.std.specs.List.{AllByRecursion}
use Rattle.nl_types.specs.Blocks.Placing.{addresses, first_block}
use Rattle.nl_segwriter.proofs.numbers.numbers_of.Given as goal

abbrev pub invariant-loop-log : goal.invariant-loop-log
invariant-loop-log l = record {
  numbers : l.numbers.items ++ addresses l.blocks (drop l.log-index l.logs) ≡ addresses l.blocks l.logs;
  inside : AllByRecursion (λ log. first_block l.blocks log + 1 + log.count ≤ 262144)
      (drop l.log-index l.logs);
}
