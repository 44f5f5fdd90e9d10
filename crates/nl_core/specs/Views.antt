-- What is told of a world.
use Rattle.std.specs.Prelude.{length}
use Rattle.std.specs.List.{filter}
use Rattle.nl_types.specs.Plain.Rows.{is_snapshot}
use Rattle.nl_types.specs.Plain.Worlds.{World, latest}
use Rattle.nl_cpfile.specs.declared.table.Cpstat.{Cpstat}

-- how many copies it keeps, and how many of them are snapshots
abbrev pub counted : World → Cpstat
counted w = record {
  latest = latest w;
  count = length w.copies;
  snapshots = length (filter (λ c. is_snapshot c.1.mode) w.copies);
}
