use Rattle.std.proofs.Common.{◌≡◌, drop, length}
use Rattle.nl_types.specs.Blocks.PartialMaps.{adjust_all}
use Rattle.nl_dat.specs.Table.{entry_in, ended_entry}
use Rattle.nl_dat.proofs.entries.end_entries.Given as goal

-- with the numbers that are left, the table is the one that is promised
abbrev pub invariant-loop-number : goal.invariant-loop-number
invariant-loop-number l = record {
  entries : adjust_all (ended_entry l.checkpoint) (drop l.number-index l.ends) (entry_in l.table)
      ≡ adjust_all (ended_entry l.checkpoint) l.ends (entry_in l.fn.table);
  size : length l.table ≡ length l.fn.table;
}
