use Rattle.std.proofs.Common.{◌∙◌, ◌%◌, ap, sym}
use Rattle.nl_types.specs.Blocks.Roots.{child}
use Rattle.nl_layout.specs.Root.{root_of}
use Rattle.nl_blocktree.specs.Facts.Reading.{data-place}
use Rattle.nl_blocktree.proofs.path.chain_path.Goals as goal

pub returns-clause-number : goal.returns-clause-number
returns-clause-number g c =
    let pages = g.V.VRead.pages c.args.store.now in
    c.bare_path.ensures.number ∙ (c.child_of-number.ensures
    ∙ (ap (child pages (c.args.index % 127)) c.node_from-node.ensures
    ∙ sym (data-place pages (root_of c.args.root.now) c.args.index
    (λ e. let no = sym c.requires.chain ∙ e in cc))))
