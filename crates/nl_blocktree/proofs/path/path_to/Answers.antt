use Rattle.std.proofs.Common.{◌∙◌, ℕ, ap, sym}
use Rattle.nl_layout.specs.declared.root.Root.TheVariants as code
use Rattle.nl_blocktree.proofs.Places.{place-empty}
use Rattle.nl_blocktree.proofs.TreeAbove.{no_way, tree_number, tree_way}
use Rattle.nl_blocktree.proofs.path.path_to.Goals as goal

pub returns-in-Empty-clause-number : goal.returns-in-Empty-clause-number
returns-in-Empty-clause-number g c =
    c.bare_path.ensures.number
    ∙ sym (place-empty (g.V.VRead.pages c.args.store.now) c.args.root.now 0 c.args.index c.in-Empty.is)

pub returns-in-Empty-clause-above : goal.returns-in-Empty-clause-above
returns-in-Empty-clause-above g c =
    no_way (g.V.VRead.pages c.args.store.now) c.args.root.now c.args.index c.bare_path.result.above.items
    c.in-Empty.is c.bare_path.ensures.above

pub returns-in-Tree-clause-number : goal.returns-in-Tree-clause-number
returns-in-Tree-clause-number g c =
    c.path_below.ensures.number
    ∙ tree_number (g.V.VRead.pages c.args.store.now) c.args.root.now c.get.result c.in-Tree.top c.args.index
    (c.in-Tree.is ∙ ap (λ (h : ℕ). code.Tree h c.in-Tree.top) (sym c.get.ensures.value))

pub returns-in-Tree-clause-above : goal.returns-in-Tree-clause-above
returns-in-Tree-clause-above g c =
    tree_way (g.V.VRead.pages c.args.store.now) c.args.root.now c.get.result c.in-Tree.top c.args.index
    c.path_below.result.above.items
    (c.in-Tree.is ∙ ap (λ (h : ℕ). code.Tree h c.in-Tree.top) (sym c.get.ensures.value))
    c.path_below.ensures.above
