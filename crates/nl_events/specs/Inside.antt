-- What the fields of the pen's tables hold.
use Rattle.nl_commit.specs.Volume.{Lists}
use Rattle.nl_commit.specs.Tables.{RoomyLists}
use Rattle.nl_events.specs.declared.tables.Tables.TheInside.{Inside}

abbrev pub lists_of : Inside → Lists
lists_of t = record {
  current = t.current;
  dirty = t.dirty;
  table = t.checkpoints.table;
  mounts = t.mounts.mounts;
  given = t.mounts.given;
}

abbrev pub roomy_of : Inside → RoomyLists
roomy_of t = record { lists = lists_of t; room = t.checkpoints.room }
