use Rattle.std.proofs.Common.{◌≡◌}
use Rattle.nl_folders.proofs.moves.sides_of.Given as goal

abbrev pub invariant-loop-pair : goal.invariant-loop-pair
invariant-loop-pair l = record {
  present : l.sides.present ≡ l.present;
  wanted : l.sides.wanted ≡ l.wanted;
}
