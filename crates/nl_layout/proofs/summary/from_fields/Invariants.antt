use Rattle.std.proofs.Common.{◌≡◌, take, drop, length}
use Rattle.nl_layout.specs.Summary.{HaveLevels, tags_at}
use Rattle.nl_layout.proofs.summary.from_fields.Given as goal

abbrev pub invariant-loop-k : goal.invariant-loop-k
invariant-loop-k l = record {
  read : take l.k l.tags ≡ tags_at l.k (drop 64 l.bytes);
  levels : HaveLevels (take l.k l.tags);
  room : length l.tags ≡ 30;
}
