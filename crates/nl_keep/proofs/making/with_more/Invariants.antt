use Rattle.std.proofs.Common.{◌≡◌, ◌+◌, ◌≤◌, drop}
use Rattle.nl_keep.specs.Made.{bytes_of_all, told}
use Rattle.nl_keep.proofs.making.with_more.Given as goal

abbrev pub invariant-loop-call : goal.invariant-loop-call
invariant-loop-call l = record {
  fits : l.bytes ≤ 18446744073709551615;
  same : told (l.bytes + bytes_of_all (drop l.call-index l.calls)) ≡ told (l.cost.bytes + bytes_of_all l.calls);
}
