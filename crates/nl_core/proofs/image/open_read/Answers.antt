use Rattle.std.proofs.Common.{subst, sym}
use Rattle.std.specs.Prelude.{All}
use Rattle.std.specs.List.{AllZip}
use Rattle.nl_cpfile.specs.Images.{HasRoot, IsEntryOf}
use Rattle.nl_cpfile.specs.Tables.{all}
use Rattle.nl_vstore.specs.Stores.{content_in}
use Rattle.nl_commit.specs.Layout.{Layout, layout_of}
use Rattle.nl_core.specs.Opened.{IsAtRest}
use Rattle.nl_events.specs.Facts.CountedPens.{latest-of}
use Rattle.nl_core.proofs.OpenedImages.{is-opened, kept-rooted, latest-was-checked, opened-rest, own-read}
use Rattle.nl_core.proofs.RestoredImages.{image-opened}
use Rattle.nl_core.proofs.image.open_read.Goals as goal

pub from_entries-requires-clause-roots : goal.from_entries-requires-clause-roots
from_entries-requires-clause-roots g c =
    subst (All HasRoot) (sym c.as_slice.ensures)
    (kept-rooted c.requires.image.0 c.args.read c.requires.image.1)

pub restore_store-requires-clause-own : goal.restore_store-requires-clause-own
restore_store-requires-clause-own g c = own-read c.requires.image.0 c.args.read c.requires.image.1

pub opened-tables-requires : goal.opened-tables-requires
opened-tables-requires g c =
    c.checked_checkpoints_have_inodes.ensures
    (content_in c.in_ok-store.store.store) c.in_ok-checkpoints.checkpoints.table.latest
    (latest-was-checked c.requires.image.0 c.args.read c.requires.image.1
    c.in_ok-store.store.store c.in_ok-store.ensures.restored c.in_ok-store.store.sound
    c.in_ok-checkpoints.checkpoints.table
    (subst (AllZip IsEntryOf (all c.in_ok-checkpoints.checkpoints.table)) c.as_slice.ensures
    c.in_ok-checkpoints.ensures))

pub invariant_of-parts : goal.invariant_of-parts
invariant_of-parts g c =
    let l = layout_of c.opened-tables.result.lists c.in_ok-store.store.store in
    let pen =
    c.opened_images_are_pens.ensures l
    (is-opened c.requires.image.0 c.args.read c.requires.image.1
    c.in_ok-store.store.store c.in_ok-store.ensures.restored c.in_ok-store.store.sound
    c.in_ok-checkpoints.checkpoints.table
    (subst (AllZip IsEntryOf (all c.in_ok-checkpoints.checkpoints.table)) c.as_slice.ensures
    c.in_ok-checkpoints.ensures)
    c.checked_checkpoints_have_inodes.ensures
    c.opened-tables.result.lists c.opened-tables.ensures.lists c.opened-tables.ensures.table) in
    record {
      pen = pen;
      counts =
          c.in_ok-needed.ensures.counted l.lists.table.latest.number (latest-of l pen.sound);
    }

pub returns-clause-rest : goal.returns-clause-rest
returns-clause-rest g c =
    subst (λ (l : Layout). IsAtRest l.lists) (sym c.of_parts.ensures.layout)
    (opened-rest c.requires.image.0 c.args.read c.requires.image.1
    c.in_ok-store.store.store c.in_ok-store.ensures.restored c.in_ok-store.store.sound
    c.in_ok-checkpoints.checkpoints.table
    (subst (AllZip IsEntryOf (all c.in_ok-checkpoints.checkpoints.table)) c.as_slice.ensures
    c.in_ok-checkpoints.ensures)
    c.checked_checkpoints_have_inodes.ensures c.opened-tables.result.lists c.opened-tables.ensures.lists)

pub returns-clause-image : goal.returns-clause-image
returns-clause-image g c bytes is =
    image-opened bytes c.args.read is
    c.in_ok-store.store.store c.in_ok-store.ensures.restored c.in_ok-store.store.sound
    c.images_are_spelled.ensures
    c.in_ok-checkpoints.checkpoints.table
    (subst (AllZip IsEntryOf (all c.in_ok-checkpoints.checkpoints.table)) c.as_slice.ensures
    c.in_ok-checkpoints.ensures)
    c.opened-tables.result.lists c.opened-tables.ensures.lists c.of_parts.result c.of_parts.ensures.layout
