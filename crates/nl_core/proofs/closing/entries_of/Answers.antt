use Rattle.std.proofs.Common.{List, arith, subst, sym}
use Rattle.std.proofs.lemmas.List.{take_all, take_more}
use Rattle.nl_types.specs.Blocks.Roots.{pages_of}
use Rattle.nl_vstore.specs.Stores.{content_in}
use Rattle.nl_cpfile.specs.Facts.ImageEntries.{zip_push}
use Rattle.nl_cpfile.specs.declared.checkpoint.Checkpoint.{Checkpoint}
use Rattle.nl_image.specs.StoreImages.{IsSizedEntry}
use Rattle.nl_core.specs.Private.Closed.{AreSized}
use Rattle.nl_core.proofs.closing.entries_of.Goals as goal

pub loop-checkpoint-preserved : goal.loop-checkpoint-preserved
loop-checkpoint-preserved g c =
    let more =
    take_more c.args.kept.now c.loop-checkpoint.checkpoint-index c.checkpoint-item.result (omega arith) in
    let item = c.checkpoint-item.is in
    let pushed =
    zip_push (IsSizedEntry (pages_of (content_in (g.V.Vstore.store c.args.store.now)))) _
    c.loop-checkpoint.entries.items c.checkpoint-item.result c.in_ok-entry.entry
    c.loop-checkpoint.invariant c.in_ok-entry.ensures.entry in
    rw (c.in_ok-push.ensures.items, more, (sym item)) pushed

pub returns-clause-entries : goal.returns-clause-entries
returns-clause-entries g c =
    let pages = pages_of (content_in (g.V.Vstore.store c.args.store.now)) in
    subst (λ (kept : List Checkpoint). AreSized pages kept c.loop-checkpoint.entries.items)
    (take_all c.loop-checkpoint.checkpoint-index c.args.kept.now (omega arith)) c.loop-checkpoint.invariant
