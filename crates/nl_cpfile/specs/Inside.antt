-- What the fields of the checkpoints hold.
use Rattle.nl_cpfile.specs.Tables.{Table, RoomyTable}
use Rattle.nl_cpfile.specs.declared.table.Checkpoints.TheInside.{Inside}

abbrev pub table_of : Inside → Table
table_of inside = record { earlier = inside.earlier.items; latest = inside.latest }

abbrev pub roomy_of : Inside → RoomyTable
roomy_of inside = record { table = table_of inside; room = inside.earlier.room }
