use Rattle.std.proofs.Common.{◌≡◌, Bool, false}
use Rattle.std.specs.Prelude.{IsTrue}
use Rattle.nl_layout.specs.Root.{root_of}
use Rattle.nl_check.specs.Trees.{IsTreeOf}
use Rattle.nl_check.specs.Facts.Below.{both, ok-then}
use Rattle.nl_check.proofs.JudgedCheckpoints.{holding-of, holds-of, limits-of, stores-of, tells-kinds, tree-holds, tree-of, tree-told}
use Rattle.nl_check.proofs.holding.holds_tree.Goals as goal

pub returns-then-not-is_told-clause-yes : goal.returns-then-not-is_told-clause-yes
returns-then-not-is_told-clause-yes g c = λ t. cc

pub returns-then-not-is_told-clause-no : goal.returns-then-not-is_told-clause-no
returns-then-not-is_told-clause-no g c = λ _ t.
    let pages = g.V.VRead.pages c.args.store.now in
    both c.is_told.result
    (c.is_told.ensures.1
    (tree-told pages
    (root_of c.args.root.now) c.requires.0 c.requires.1 c.args.walk.now c.requires.2
    c.args.entry.now c.args.awaited.now c.requires.3 t))
    c.if-not-is_told.true

pub returns-clause-yes : goal.returns-clause-yes
returns-clause-yes g c =
    let pages = g.V.VRead.pages c.args.store.now in
    let root = root_of c.args.root.now in
    let told = c.is_told.ensures.0 c.if-not-is_told.false in
    ok-then c.forms_tree.result c.forms_tree.ensures.yes
    (λ (holds : Bool). IsTrue holds → IsTreeOf pages root c.args.entry.now.size c.args.entry.now.inodes)
    (λ holds f t.
    tree-of pages root c.requires.0 c.requires.1 c.args.walk.now c.requires.2 c.args.entry.now
    c.args.awaited.now c.requires.3 told
    (f t (holding-of pages root c.requires.0 c.requires.1 c.args.walk.now c.requires.2 told.sound)
    (c.new.ensures
    (holding-of pages root c.requires.0 c.requires.1 c.args.walk.now c.requires.2 told.sound)
    (holds-of pages root c.requires.0 c.requires.1 c.args.walk.now c.requires.2 told.sound))
    (limits-of pages root c.requires.0 c.requires.1 c.args.walk.now c.requires.2 told.sound)
    (tells-kinds pages root c.requires.0 c.requires.1 c.args.walk.now c.requires.2
    (holding-of pages root c.requires.0 c.requires.1 c.args.walk.now c.requires.2 told.sound)
    (stores-of pages root c.requires.0 c.requires.1 c.args.walk.now c.requires.2 told.sound)
    c.args.awaited.now c.requires.3)))

pub returns-clause-no : goal.returns-clause-no
returns-clause-no g c =
    let pages = g.V.VRead.pages c.args.store.now in
    let root = root_of c.args.root.now in
    ok-then c.forms_tree.result c.forms_tree.ensures.no
    (λ (holds : Bool).
    holds ≡ false → IsTreeOf pages root c.args.entry.now.size c.args.entry.now.inodes → ⊥)
    (λ holds f e t.
    f e t.holding (c.new.ensures t.holding
    (tree-holds pages root c.requires.0 c.requires.1 c.args.walk.now c.requires.2
    c.args.entry.now.size c.args.entry.now.inodes t))
    t.limits
    (tells-kinds pages root c.requires.0 c.requires.1 c.args.walk.now c.requires.2 t.holding t.stores
    c.args.awaited.now c.requires.3)
    t.forms)
