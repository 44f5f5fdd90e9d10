use Rattle.std.proofs.Common.{◌≡◌}
use Rattle.nl_folders.proofs.moves.make_above.Given as goal

abbrev pub invariant-loop-depth : goal.invariant-loop-depth
invariant-loop-depth l = record {
  present : l.sides.present ≡ l.initial.sides.present;
  wanted : l.sides.wanted ≡ l.initial.sides.wanted;
}
