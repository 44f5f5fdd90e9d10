use Rattle.std.proofs.Common.{◌≡◌, drop, length}
use Rattle.nl_types.specs.Blocks.PartialMaps.{adjust_each}
use Rattle.nl_dat.specs.Table.{entry_in, moved_entry}
use Rattle.nl_dat.proofs.entries.move_entries.Given as goal

-- with the numbers that are left, the table is the one that is promised
abbrev pub invariant-loop-i : goal.invariant-loop-i
invariant-loop-i l = record {
  entries : adjust_each moved_entry (drop l.i l.numbers) (drop l.i l.blocks) (entry_in l.table)
      ≡ adjust_each moved_entry l.numbers l.blocks (entry_in l.fn.table);
  size : length l.table ≡ length l.fn.table;
}
