use Rattle.std.proofs.Common.{◌≡◌, take}
use Rattle.nl_dat.specs.Table.{addresses_of, entry_in}
use Rattle.nl_dat.specs.Described.{descs_from}
use Rattle.nl_dat.proofs.bdesc.describe_row.Given as goal

abbrev pub invariant-loop-position : goal.invariant-loop-position
invariant-loop-position l =
    l.descs.items ≡ descs_from (addresses_of (entry_in l.table)) l.first (take l.position l.row)
