use Rattle.std.proofs.Common.{ℕ, ◌<◌}
use Rattle.nl_segwriter.specs.Writing.{held_in}
use Rattle.nl_dat.specs.Table.{entry_in}
use Rattle.nl_image.specs.Reading.{IsOwnEntry}
use Rattle.nl_damage.proofs.later.have_own.Given as goal

abbrev pub invariant-loop-number : goal.invariant-loop-number
invariant-loop-number l = (v : ℕ) → v < l.number → IsOwnEntry (held_in l.payload) v (entry_in l.table v)
