use Rattle.std.proofs.Common.{◌∙◌, ◌%◌, ℕ, ap, sym}
use Rattle.nl_types.specs.Blocks.Roots.{Pages, child}
use Rattle.nl_layout.specs.Root.{root_of}
use Rattle.nl_blocktree.specs.Private.Chains.{slots_below}
use Rattle.nl_blocktree.proofs.TreeReading.{data_under}
use Rattle.nl_blocktree.proofs.cursor.number_under.Goals as goal

pub returns : goal.returns
returns g c =
    let pages : Pages = g.V.VRead.pages c.args.store.now in
    c.child_of.ensures ∙ (ap (λ (s : ℕ). child pages (c.args.index % s) c.args.node) c.slots_of.ensures
    ∙ (ap (child pages (c.args.index % slots_below (root_of c.args.root))) c.requires
    ∙ sym (data_under pages (root_of c.args.root) c.args.index (c.is_bare.ensures c.if-is_bare.false))))
