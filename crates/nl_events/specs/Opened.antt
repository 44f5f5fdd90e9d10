-- The lists of a volume that was just opened.
use Rattle.std.specs.Prelude.{◌-◌, [], false}
use Rattle.nl_types.specs.Plain.Limits.{first_inode}
use Rattle.nl_cpfile.specs.Tables.{Table}
use Rattle.nl_commit.specs.Volume.{Lists}

-- the lists over checkpoints that an image keeps: nothing differs from the latest one, and nothing was
-- mounted
abbrev pub opened_lists : Table → Lists
opened_lists table = record {
  current = record { became = []; freed = []; mark = first_inode; names = table.latest.inodes - 1 };
  dirty = false;
  table = table;
  mounts = [];
  given = 0;
}
