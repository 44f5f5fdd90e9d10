use Rattle.std.proofs.Common.{◌≡◌, ◌*◌, ◌<◌, ◌^◌, ◌++◌, take, drop}
use Rattle.std.specs.List.{All}
use Rattle.nl_layout.specs.Node.{slots_bytes}
use Rattle.nl_layout.proofs.node.write_slots.Given as goal

abbrev pub invariant-loop-s : goal.invariant-loop-s
invariant-loop-s l = record {
  written : l.out ≡ slots_bytes (take l.s l.slots) ++ drop (8 * l.s) l.fn.out;
  fit : All (λ number. number < 2 ^ 64) (take l.s l.slots);
}
