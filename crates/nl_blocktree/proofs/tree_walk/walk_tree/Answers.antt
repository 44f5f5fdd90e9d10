use Rattle.std.proofs.Common.{◌≡◌, ◌∙◌, ◌-◌, ◌^◌, ◌<◌, ◌≤◌, ℕ, arith, subst, sym}
use Rattle.std.proofs.Math.Nat.{one-le-pow}
use Rattle.std.proofs.lemmas.Result.{err_from_is_err_and}
use Rattle.nl_types.specs.Blocks.Roots.{Tree, Pages}
use Rattle.nl_blocktree.specs.TreePlaces.{IsUnder}
use Rattle.nl_blocktree.specs.Walked.{IsWalkRefusal, IsWalked}
use Rattle.nl_blocktree.specs.declared.meeting.WalkError.TheVariants.{TooHigh}
use Rattle.nl_blocktree.specs.Facts.TreePlaces.{top-place}
use Rattle.nl_blocktree.proofs.MetTrees.{no-level, no-lower-tree, no-tree-top, walked-tree}
use Rattle.nl_blocktree.proofs.Refusals.{refusal-whole}
use Rattle.nl_blocktree.proofs.tree_walk.walk_tree.Goals as goal
use Rattle.nl_blocktree.proofs.tree_walk.walk_tree.Goals.{else-height-gt1-via-then-height-gt1+else-count-indexes_below, else-height-gt1-via-else-height-gt1}

pub returns-then-get-eq0-clause-refused : goal.returns-then-get-eq0-clause-refused
returns-then-get-eq0-clause-refused g c =
    no-tree-top (g.V.VRead.pages c.args.store.now) c.args.height c.args.top c.args.met.now
    (sym c.get.ensures ∙ c.if-get-eq0.true)

pub returns-then-height-eq0-clause-refused : goal.returns-then-height-eq0-clause-refused
returns-then-height-eq0-clause-refused g c =
    no-level (g.V.VRead.pages c.args.store.now) c.args.height c.args.top c.args.met.now
    (sym c.get-height.ensures.value ∙ c.if-height-eq0.true)

pub walk_below-requires-clause-offset : goal.walk_below-requires-clause-offset
walk_below-requires-clause-offset g c = let some : 1 ≤ 128 ^ (3 - c.get-height.result) = one-le-pow
    (3 - c.get-height.result) 128 (omega arith) in omega (arith, some)

pub returns-in_err-count-clause-refused : goal.returns-in_err-count-clause-refused
returns-in_err-count-clause-refused g c =
    let exits = err_from_is_err_and c.from_residual.result c.from_residual.ensures.1 in
    rw (exits.1, exits.2) (
    let pages : Pages = g.V.VRead.pages c.args.store.now in
    let height : ℕ = c.get-height.result in
    subst (λ (h : ℕ). IsWalkRefusal pages (Tree h c.args.top) c.args.met.now c.in_err-count.field-0.0)
    c.get-height.ensures.value
    (refusal-whole pages (Tree height c.args.top) (IsUnder height 0 1) c.args.met.now
    c.in_err-count.field-0.0
    (c.in_err-count.ensures.refused height c.args.top (omega arith) (top-place pages height c.args.top
    (λ e. c.if-get-eq0.false (c.get.ensures ∙ e))))))

pub returns-then-count-indexes_below-clause-refused : goal.returns-then-count-indexes_below-clause-refused
returns-then-count-indexes_below-clause-refused g c =
    let pages : Pages = g.V.VRead.pages c.args.store.now in
    let height : ℕ = c.get-height.result in
    let few : c.in_ok-count.count ≤ 128 ^ (height - 1) = omega
    (arith, c.if-count-indexes_below.true, c.indexes_below.ensures) in
    subst (λ (h : ℕ). IsWalkRefusal pages (Tree h c.args.top) c.args.met.now TooHigh)
    c.get-height.ensures.value
    (no-lower-tree pages height (height - 1) c.args.top c.in_ok-count.count c.args.met.now c.walk_below.new.met
    (omega (arith, c.if-height-gt1.true)) (omega (arith, c.if-height-gt1.true)) few
    (c.in_ok-count.ensures.yes height c.args.top (omega arith) (top-place pages height c.args.top
    (λ e. c.if-get-eq0.false (c.get.ensures ∙ e)))))

pub returns-clause-yes : goal.returns-clause-yes
returns-clause-yes g c =
    let pages : Pages = g.V.VRead.pages c.args.store.now in
    let height : ℕ = c.get-height.result in
    let some = λ (e : c.args.top ≡ 0). c.if-get-eq0.false (c.get.ensures ∙ e) in
    let many : 1 ≤ height - 1 → 128 ^ (height - 1) < c.in_ok-count.count = λ one.
    elim c.else-height-gt1.branch [
      | else-height-gt1-via-then-height-gt1+else-count-indexes_below w ↦ omega
          (arith, w.if-count-indexes_below.false, w.indexes_below.ensures)
      | else-height-gt1-via-else-height-gt1 w ↦ absurd (omega (arith, one, w.if-height-gt1.false))
    ] in
    subst
    (λ (h : ℕ). IsWalked pages (Tree h c.args.top) c.args.met.now c.walk_below.new.met c.in_ok-count.count)
    c.get-height.ensures.value
    (walked-tree pages height (height - 1) c.args.top c.in_ok-count.count c.args.met.now c.walk_below.new.met
    (omega
    (arith, c.if-height-eq0.false)) some many
    (c.in_ok-count.ensures.yes height c.args.top (omega arith) (top-place pages height c.args.top some)))
