use Rattle.std.proofs.Common.{◌≡◌, take, length}
use Rattle.nl_layout.specs.Node.{slots_at}
use Rattle.nl_layout.proofs.node.slots_in.Given as goal

abbrev pub invariant-loop-s : goal.invariant-loop-s
invariant-loop-s l = record {
  read : take l.s l.slots ≡ slots_at l.s l.bytes;
  room : length l.slots ≡ 128;
}
