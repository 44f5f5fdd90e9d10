use Rattle.std.proofs.Common.{◌≡◌, ◌∙◌, ◌-◌, ◌^◌, ◌<◌, ◌≤◌, ℕ, arith, subst}
use Rattle.std.proofs.Math.Nat.{one-le-pow}
use Rattle.nl_types.specs.Blocks.Roots.{Pages}
use Rattle.nl_check.specs.Private.BesideTrees.{IsEndOfTree}
use Rattle.nl_blocktree.specs.Facts.TreePlaces.{top-place}
use Rattle.nl_check.proofs.TreeEnds.{least-height}
use Rattle.nl_check.proofs.ends.end_of_tree.Goals as goal
use Rattle.nl_check.proofs.ends.end_of_tree.Goals.{else-height-gt1-via-then-height-gt1+else-count-indexes_below, else-height-gt1-via-else-height-gt1}

pub end_below-requires-clause-offset : goal.end_below-requires-clause-offset
end_below-requires-clause-offset g c =
    let some : 1 ≤ 128 ^ (3 - c.get-height.result) = one-le-pow (3 - c.get-height.result) 128 (omega arith) in
    omega (arith, some)

pub returns-clause-end : goal.returns-clause-end
returns-clause-end g c =
    let pages : Pages = g.V.VRead.pages c.args.store.now in
    let height : ℕ = c.get-height.result in
    let there = top-place pages height c.args.top
    (λ (e : c.args.top ≡ 0). c.if-get-eq0.false (c.get.ensures ∙ e)) in
    let many : 1 ≤ height - 1 → 128 ^ (height - 1) < c.in_ok-count.count = λ one.
    elim c.else-height-gt1.branch [
      | else-height-gt1-via-then-height-gt1+else-count-indexes_below w ↦ omega
          (arith, w.if-count-indexes_below.false, w.indexes_below.ensures)
      | else-height-gt1-via-else-height-gt1 w ↦ absurd (omega (arith, one, w.if-height-gt1.false))
    ] in
    subst (λ (h : ℕ). IsEndOfTree pages h c.args.top c.in_ok-count.count) c.get-height.ensures.value
    (record {
      low = omega (arith, c.if-height-eq0.false);
      top_there = there;
      ends = c.in_ok-count.ensures.end height c.args.top (omega arith) there;
      least = least-height height (height - 1) c.in_ok-count.count (omega (arith, c.if-height-eq0.false))
          many;
    })
