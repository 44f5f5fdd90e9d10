use Rattle.std.proofs.Common.{◌≡◌, drop, length}
use Rattle.nl_types.specs.Blocks.PartialMaps.{put_each}
use Rattle.nl_types.specs.Blocks.Entries.{number_of}
use Rattle.nl_vstore.specs.Batches.{births_of}
use Rattle.nl_dat.specs.Table.{entry_in, new_entry}
use Rattle.nl_dat.proofs.entries.enter_births.Given as goal

-- with the births that are left, the table is the one that is promised
abbrev pub invariant-loop-i : goal.invariant-loop-i
invariant-loop-i l = record {
  entries : put_each number_of (new_entry l.checkpoint) (drop l.i (births_of l.births)) (drop l.i l.blocks)
      (entry_in l.table)
      ≡ put_each number_of (new_entry l.checkpoint) (births_of l.births) l.blocks (entry_in l.fn.table);
  size : length l.table ≡ length l.fn.table;
}
