use Rattle.std.proofs.Common.{◌≡◌, ◌∙◌, arith, ap, sym}
use Rattle.nl_types.specs.Blocks.Roots.{OfChain, OfTree, kind_of}
use Rattle.nl_layout.specs.Root.{root_of}
use Rattle.nl_layout.specs.declared.root.Root.{Root}
use Rattle.nl_blocktree.specs.Facts.Reading.{place-behind}
use Rattle.nl_blocktree.proofs.cursor.node_from.Goals as goal

pub returns-in-Chain : goal.returns-in-Chain
returns-in-Chain g c =
    place-behind (g.V.VRead.pages c.args.store.now)
    (root_of c.args.root) c.args.known c.args.position c.args.node c.node_behind.result
    (λ e.
    let k = ap (λ (r : Root). kind_of (root_of r)) c.in-Chain.is in
    let other : OfChain ≡ OfTree = sym k ∙ e in
    cc)
    (omega arith) c.requires c.node_behind.ensures
