use Rattle.std.proofs.Common.{◌<◌, ◌+◌, length, drop, sym, ap, ◌∙◌}
use Rattle.nl_types.specs.Blocks.PartialMaps.{adjust_all}
use Rattle.nl_dat.specs.Table.{entry_in, ended_entry}
use Rattle.nl_dat.proofs.Tables.{adjust_all_step, of_read}
use Rattle.nl_dat.proofs.entries.end_entries.Goals as goal

pub end_entry-requires : goal.end_entry-requires
end_entry-requires c =
    rw c.loop-number.invariant.size
    (of_read (λ v. v < length c.args.table.now) c.args.ends.now c.loop-number.number-index
    c.number-item.result c.requires c.loop-number-test.true c.number-item.is)

pub loop-number-preserved : goal.loop-number-preserved
loop-number-preserved c =
    let close = ended_entry c.args.checkpoint in
    let step =
    adjust_all_step close c.args.ends.now c.loop-number.number-index c.number-item.result
    (entry_in c.loop-number.table) c.loop-number-test.true c.number-item.is in
    record {
      entries =
          ap (adjust_all close (drop (c.loop-number.number-index + 1) c.args.ends.now))
          c.end_entry.ensures.entries
          ∙ sym step ∙ c.loop-number.invariant.entries;
      size = c.end_entry.ensures.length ∙ c.loop-number.invariant.size;
    }
