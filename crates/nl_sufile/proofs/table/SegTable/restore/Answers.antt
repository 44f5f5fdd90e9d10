use Rattle.std.proofs.Common.{◌∙◌}
use Rattle.std.proofs.lemmas.Result.{err_from_is_err_and}
use Rattle.nl_sufile.specs.Facts.ImageEntries.{entries_told, same_segments, told_seg_table, told_table}
use Rattle.nl_sufile.proofs.table.SegTable.restore.Goals as goal

pub returns-in_err-each-clause-only : goal.returns-in_err-each-clause-only
returns-in_err-each-clause-only c = λ s told.
    let p = err_from_is_err_and c.from_residual.result c.from_residual.ensures.1 in
    let only = c.in_err-each.ensures.only s.each (entries_told c.args.geometry c.args.bytes.now s told) in
    rw (p.1, p.2) only

pub from_entries-requires-clause-table : goal.from_entries-requires-clause-table
from_entries-requires-clause-table c =
    let active = rw c.as_slice.ensures at c.in-Ok.ensures.found in
    told_seg_table c.args.geometry c.args.bytes.now _
    (told_table c.args.geometry c.args.bytes.now c.in_ok-each.each c.in-Ok.active c.in_ok-each.ensures.found
    active)

pub returns-in-Err-clause-only : goal.returns-in-Err-clause-only
returns-in-Err-clause-only c = λ s told.
    let two = rw c.as_slice.ensures at c.in-Err.ensures.two in
    let same = c.in_ok-each.ensures.only s.each (entries_told c.args.geometry c.args.bytes.now s told) in
    absurd (two (rw same told.tidy.one_active))

pub returns-in-Ok-clause-only : goal.returns-in-Ok-clause-only
returns-in-Ok-clause-only c = λ s told.
    let same = c.in_ok-each.ensures.only s.each (entries_told c.args.geometry c.args.bytes.now s told) in
    c.from_entries.ensures ∙ same_segments c.args.geometry c.in_ok-each.each s same told.blocks
