use Rattle.std.proofs.Common.{◌≡◌, Bool, false, List, Option, subst, sym}
use Rattle.std.specs.Prelude.{IsTrue}
use Rattle.nl_types.specs.declared.kind.Kind.{Kind}
use Rattle.nl_layout.specs.Root.{root_of}
use Rattle.nl_check.specs.Private.Naming.{HasKindsOf}
use Rattle.nl_check.specs.Trees.{IsTreeOf}
use Rattle.nl_check.specs.Facts.Below.{ok-then}
use Rattle.nl_check.proofs.holding.hold_trees.Goals as goal

pub holds_tree-requires : goal.holds_tree-requires
holds_tree-requires g c = (
  c.requires.0,
  c.args.kinds.now,
  c.requires.1,
  subst (HasKindsOf c.args.walk.now.count c.args.kinds.now) (sym c.as_mut_slice.ensures.value)
      (subst (λ (kinds : List (Option Kind)).
      HasKindsOf c.args.walk.now.count kinds c.in_ok-awaited.awaited.items)
      c.as_slice.ensures.kinds c.in_ok-awaited.ensures.kinds),
)

pub returns-clause-yes : goal.returns-clause-yes
returns-clause-yes g c =
    ok-then c.holds_tree.result c.holds_tree.ensures.yes
    (λ (hold : Bool).
    IsTrue hold → IsTrue c.args.before
    × IsTreeOf (g.V.VRead.pages c.args.store.now) (root_of c.args.root.now) c.args.entry.now.size
    c.args.entry.now.inodes)
    (λ hold tree_is held. (c.if-not-before.false, tree_is held))

pub returns-clause-no : goal.returns-clause-no
returns-clause-no g c =
    ok-then c.holds_tree.result c.holds_tree.ensures.no
    (λ (hold : Bool).
    hold ≡ false → IsTrue c.args.before
    → IsTreeOf (g.V.VRead.pages c.args.store.now) (root_of c.args.root.now) c.args.entry.now.size
    c.args.entry.now.inodes → ⊥)
    (λ hold never failed before. never failed)

pub returns-then-not-before-clause-yes : goal.returns-then-not-before-clause-yes
returns-then-not-before-clause-yes g c = λ held. cc
