use Rattle.std.proofs.Common.{◌≡◌, ◌*◌, ◌++◌, take, drop}
use Rattle.std.specs.List.{flat_map}
use Rattle.nl_dat.specs.EntryBytes.{number_bytes}
use Rattle.nl_dat.proofs.images.write_numbers.Given as goal

abbrev pub invariant-loop-i : goal.invariant-loop-i
invariant-loop-i l = l.out ≡ flat_map number_bytes (take l.i l.numbers) ++ drop (24 * l.i) l.fn.out
