use Rattle.std.proofs.Common.{Bool, subst, sym}
use Rattle.std.specs.Prelude.{IsTrue}
use Rattle.nl_types.specs.Blocks.Roots.{Pages, Tree}
use Rattle.nl_layout.specs.Root.{root_of}
use Rattle.nl_layout.specs.declared.root.Root.{Root as CodeRoot}
use Rattle.nl_check.specs.Private.ChangedFiles.{AreAllListed, ListsAll}
use Rattle.nl_check.specs.Facts.Below.{ok-map}
use Rattle.nl_check.proofs.ListedFiles.{listed-from-none}
use Rattle.nl_check.proofs.differing.list_changed.Goals as goal

pub returns-in-Tree-clause-yes : goal.returns-in-Tree-clause-yes
returns-in-Tree-clause-yes g c =
    let pages : Pages = g.V.VRead.pages c.args.store.now in
    ok-map c.list_tree.result
    (λ (all : Bool). IsTrue all → ListsAll pages (Tree c.in-Tree.height c.in-Tree.top) (root_of c.args.now)
    c.clear.new.self.items c.list_tree.new.files.items)
    (λ (all : Bool). IsTrue all
    → AreAllListed pages (root_of c.args.before) (root_of c.args.now) c.list_tree.new.files.items)
    (λ all lists t.
    subst (λ (r : CodeRoot). AreAllListed pages (root_of r) (root_of c.args.now) c.list_tree.new.files.items)
    (sym c.in-Tree.is)
    (listed-from-none pages (Tree c.in-Tree.height c.in-Tree.top) (root_of c.args.now) c.clear.new.self.items
    c.list_tree.new.files.items c.clear.ensures.items (lists t)))
    c.list_tree.ensures.yes
