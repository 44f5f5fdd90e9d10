use Rattle.std.proofs.Common.{◌≡◌, ◌*◌, arith, refl}
use Rattle.nl_types.specs.Blocks.Segments.{total_blocks}
use Rattle.nl_vstore.specs.Images.{pages_of_bytes}
use Rattle.nl_segwriter.proofs.ImagePages.{all_pages, more_pages}
use Rattle.nl_segwriter.proofs.images.read_pages.Goals as goal

pub loop-number-preserved : goal.loop-number-preserved
loop-number-preserved c =
    let items = c.in_ok-push.ensures.items in
    rw items (more_pages c.args.table.now
    (pages_of_bytes c.args.blocks.now) c.loop-number.pages.items c.in_ok-read_page.field-0
    c.loop-number.number c.loop-number.invariant c.in_ok-read_page.ensures.used
    c.in_ok-read_page.ensures.unused)

pub returns : goal.returns
returns c =
    let count : c.sustat.result.segments * c.blocks-2.result ≡ total_blocks c.args.table.now =
    rw (c.sustat.ensures.segments, c.blocks-2.ensures.blocks) refl in
    rw c.from_vec.ensures
    (all_pages c.args.table.now
    (pages_of_bytes c.args.blocks.now) c.loop-number.pages.items c.loop-number.number
    c.blocks-2.ensures.limits.tidy
    (omega (arith, count, c.loop-number-test.false, c.loop-number.auto.number-end))
    c.loop-number.invariant)
