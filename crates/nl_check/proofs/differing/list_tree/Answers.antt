use Rattle.std.proofs.Common.{◌≡◌, ◌∙◌, ◌-◌, ◌^◌, ◌≤◌, ℕ, Bool, ap, arith, subst, sym}
use Rattle.std.proofs.Math.Nat.{one-le-pow}
use Rattle.std.specs.Prelude.{IsTrue}
use Rattle.nl_types.specs.Blocks.Roots.{Pages, Root, Tree, place_at}
use Rattle.nl_layout.specs.Root.{root_of}
use Rattle.nl_check.specs.Private.ChangedFiles.{ListsAll, ListsUnder, of_height}
use Rattle.nl_check.specs.Facts.Below.{ok-map}
use Rattle.nl_check.proofs.HeightsBeside.{of-height}
use Rattle.nl_check.proofs.ListedFiles.{all-listed}
use Rattle.nl_blocktree.specs.Facts.TreePlaces.{tree-top}
use Rattle.nl_check.proofs.differing.list_tree.Goals as goal

pub list_below-requires-clause-offset : goal.list_below-requires-clause-offset
list_below-requires-clause-offset g c =
    let some : 1 ≤ 128 ^ (3 - c.get.result) = one-le-pow (3 - c.get.result) 128 (omega arith) in
    omega (arith, some)

pub returns-clause-yes : goal.returns-clause-yes
returns-clause-yes g c =
    let pages : Pages = g.V.VRead.pages c.args.store.now in
    let height : ℕ = c.args.height in
    let top : ℕ = c.args.top in
    let tree = c.is_tree_of.ensures c.if-not-is_tree_of.false in
    let yes = rw c.get.ensures.value at c.list_below.ensures.yes in
    let there : place_at pages (Tree height tree.0) height 0 ≡ c.top_beside.result =
    ap (λ (r : Root). place_at pages r height 0)
    (sym (of-height height tree.0) ∙ ap (of_height height) (sym tree.1))
    ∙ c.top_beside.ensures pages in
    ok-map c.list_below.result
    (λ (all : Bool). IsTrue all → (h t other : ℕ) → height ≤ h → place_at pages (Tree h t) height 0
    ≡ c.named.result
    → place_at pages (Tree h other) height 0 ≡ c.top_beside.result
    → ListsUnder pages (Tree h t) (Tree h other) height 0 1 c.args.files.now.items
    c.list_below.new.files.items)
    (λ (all : Bool). IsTrue all
    → ListsAll pages (Tree height top) (root_of c.args.now) c.args.files.now.items
    c.list_below.new.files.items)
    (λ all lists t.
    subst (λ (r : Root). ListsAll pages (Tree height top) r c.args.files.now.items
    c.list_below.new.files.items)
    (sym tree.1)
    (all-listed pages height top tree.0 c.args.files.now.items c.list_below.new.files.items
    (lists t height top tree.0 (omega arith) (tree-top pages height top ∙ sym c.named.ensures) there)))
    yes
