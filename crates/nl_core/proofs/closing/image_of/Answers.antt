use Rattle.std.proofs.Common.{List, subst, sym}
use Rattle.nl_types.specs.Blocks.Roots.{pages_of}
use Rattle.nl_vstore.specs.Stores.{content_in}
use Rattle.nl_cpfile.specs.Tables.{Table, all}
use Rattle.nl_layout.specs.declared.checkpoint_entry.CheckpointEntry.{CheckpointEntry}
use Rattle.nl_image.specs.StoreImages.{IsSpelledOf}
use Rattle.nl_image.specs.Facts.SpelledImages.{spelled-image}
use Rattle.nl_core.specs.Private.Closed.{AreSized, HaveSizes}
use Rattle.nl_commit.specs.Volume.{kept_by}
use Rattle.nl_commit.specs.Layout.{layout_of}
use Rattle.nl_core.proofs.Closed.{counted-read, have-sizes, numbers-fit}
use Rattle.nl_core.proofs.closing.image_of.Goals as goal

pub all_entries-requires : goal.all_entries-requires
all_entries-requires g c =
    subst (λ (t : Table). HaveSizes (pages_of (content_in c.parts.inside.store.store)) (all t))
    (sym c.checkpoints.ensures)
    (have-sizes (layout_of c.parts.inside.tables.lists c.parts.inside.store.store) c.parts.invariant.pen)

pub write_image-requires : goal.write_image-requires
write_image-requires g c =
    numbers-fit (layout_of c.parts.inside.tables.lists c.parts.inside.store.store) c.parts.invariant.pen

pub invariant_of-parts : goal.invariant_of-parts
invariant_of-parts g c =
    counted-read c.counts_stay.ensures.read c.parts.inside.tables.lists c.parts.inside.store.store
    c.write_image.new.store.store c.parts.inside.needed c.parts.invariant c.write_image.new.store.sound
    c.write_image.ensures.same

pub invariant_of-parts-2 : goal.invariant_of-parts-2
invariant_of-parts-2 g c =
    counted-read c.counts_stay.ensures.read c.parts.inside.tables.lists c.parts.inside.store.store
    c.write_image.new.store.store c.parts.inside.needed c.parts.invariant c.write_image.new.store.sound
    c.write_image.ensures.same

pub returns-clause-image : goal.returns-clause-image
returns-clause-image g c =
    let l = c.parts.inside.tables.lists in
    let s = c.parts.inside.store.store in
    let entries = c.in_ok-entries.entries.items in
    let image = c.in_ok-image.image.items in
    rw (← c.parts.view_is)
    (spelled-image s (kept_by l) entries image
    (subst (λ (t : Table). AreSized (pages_of (content_in s)) (all t) entries) c.checkpoints.ensures
    c.in_ok-entries.ensures.entries)
    (subst (λ (es : List CheckpointEntry). IsSpelledOf s es image) c.as_slice.ensures.value
    c.in_ok-image.ensures.image))
