use Rattle.std.proofs.Common.{arith, sym}
use Rattle.std.proofs.lemmas.List.{take_all, take_more}
use Rattle.nl_cpfile.specs.Images.{HasRoot, IsEntryOf}
use Rattle.nl_cpfile.specs.Facts.ImageEntries.{last_of, told_table, zip_push}
use Rattle.nl_cpfile.proofs.table.Checkpoints.from_entries.Goals as goal

pub loop-entry-preserved : goal.loop-entry-preserved
loop-entry-preserved c =
    let rest = c.in-Some.rest.now in
    let more = take_more rest c.loop-entry.entry-index c.entry-item.result (omega arith) in
    let item = c.entry-item.is in
    let pushed =
    zip_push IsEntryOf c.loop-entry.earlier.items _ c.of_entry.result c.entry-item.result
    c.loop-entry.invariant c.of_entry.ensures in
    rw (c.in_ok-push.ensures.items, more, (sym item)) pushed

pub of_entry-requires-2 : goal.of_entry-requires-2
of_entry-requires-2 c =
    last_of HasRoot c.in-Some.rest.now c.in-Some.last.now (rw c.in-Some.ensures.cases.0 at c.requires.roots)

-- all entries were gone through
pub from_table-requires : goal.from_table-requires
from_table-requires c =
    let rest = c.in-Some.rest.now in
    let whole = take_all c.loop-entry.entry-index rest (omega arith) in
    let each = rw whole at c.loop-entry.invariant in
    (told_table c.args.kept.now c.loop-entry.earlier.items c.of_entry-2.result rest c.in-Some.last.now
    c.in-Some.ensures.cases.0 c.requires.rising each c.of_entry-2.ensures).0

pub returns : goal.returns
returns c =
    let rest = c.in-Some.rest.now in
    let whole = take_all c.loop-entry.entry-index rest (omega arith) in
    let each = rw whole at c.loop-entry.invariant in
    rw c.from_table.ensures
    (told_table c.args.kept.now c.loop-entry.earlier.items c.of_entry-2.result rest c.in-Some.last.now
    c.in-Some.ensures.cases.0 c.requires.rising each c.of_entry-2.ensures).1
