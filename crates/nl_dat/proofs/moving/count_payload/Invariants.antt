use Rattle.nl_vstore.specs.Located.{AreCounted, in_row}
use Rattle.nl_dat.proofs.moving.count_payload.Given as goal

abbrev pub invariant-loop-position : goal.invariant-loop-position
invariant-loop-position l = AreCounted (in_row l.row) 0 l.position l.count
