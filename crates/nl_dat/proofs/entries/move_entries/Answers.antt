use Rattle.std.proofs.Common.{◌<◌, ◌+◌, length, drop, sym, ap, ◌∙◌, arith}
use Rattle.nl_types.specs.Blocks.PartialMaps.{adjust_each}
use Rattle.nl_dat.specs.Table.{entry_in, moved_entry}
use Rattle.nl_dat.proofs.Tables.{adjust_each_step, of_read}
use Rattle.nl_dat.proofs.entries.move_entries.Goals as goal

pub move_entry-requires : goal.move_entry-requires
move_entry-requires c =
    rw c.loop-i.invariant.size
    (of_read (λ v. v < length c.args.table.now) c.args.numbers.now c.loop-i.i c.index-numbers-i.result
    c.requires.inside c.loop-i-test.true c.index-numbers-i.is)

pub loop-i-preserved : goal.loop-i-preserved
loop-i-preserved c =
    let blocks = c.args.blocks.now in
    let step =
    adjust_each_step moved_entry c.args.numbers.now blocks c.loop-i.i c.index-numbers-i.result
    c.index-blocks-i.result
    (entry_in c.loop-i.table) c.loop-i-test.true
    (omega arith) c.index-numbers-i.is c.index-blocks-i.is in
    record {
      entries =
          ap (adjust_each moved_entry (drop (c.loop-i.i + 1) c.args.numbers.now)
          (drop (c.loop-i.i + 1) blocks))
          c.move_entry.ensures.entries
          ∙ sym step ∙ c.loop-i.invariant.entries;
      size = c.move_entry.ensures.length ∙ c.loop-i.invariant.size;
    }
