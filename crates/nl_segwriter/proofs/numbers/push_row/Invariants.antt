use Rattle.std.proofs.Common.{◌≡◌, ◌+◌, ◌++◌}
use Rattle.nl_types.specs.Blocks.Placing.{blocks_from, first_block}
use Rattle.nl_segwriter.proofs.numbers.push_row.Given as goal

abbrev pub invariant-loop-k : goal.invariant-loop-k
invariant-loop-k l =
    l.numbers.items ≡ l.fn.numbers.items ++ blocks_from (first_block l.blocks l.fn.log + 1) l.k
