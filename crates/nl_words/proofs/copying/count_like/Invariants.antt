use Rattle.std.proofs.Common.{◌≡◌, ◌≤◌, ◌+◌, drop}
use Rattle.nl_words.specs.Coming.{count_like}
use Rattle.nl_words.proofs.copying.count_like.Given as goal

abbrev pub invariant-loop-other : goal.invariant-loop-other
invariant-loop-other l = record {
  count : l.count + count_like l.fn.one (drop l.other-index l.all) ≡ count_like l.fn.one l.all;
  most : l.count ≤ l.other-index;
}
