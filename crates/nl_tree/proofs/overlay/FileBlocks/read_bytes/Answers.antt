use Rattle.nl_tree.specs.Held.{held_block}
use Rattle.nl_tree.specs.Overlays.{new_page_at}
use Rattle.nl_tree.proofs.ReadBytes.{read_over}
use Rattle.nl_tree.proofs.overlay.FileBlocks.read_bytes.Goals as goal

pub returns : goal.returns
returns g c = λ b holds.
    let count = c.bytes_below_cut-count in
    read_over c.args.into.now c.read_bytes.new.into c.fill.new.self count.result count.ensures.within
    c.read_bytes.auto.into
    (c.fill.ensures.after (λ y e. e))
    (held_block (b c.args.file))
    (new_page_at c.args.self.now) c.args.self.now.cut c.args.offset c.copy_new_pages.new.into
    c.copy_new_pages.auto.into
    count.ensures.below count.ensures.past (c.read_bytes.ensures b holds) c.copy_new_pages.ensures
