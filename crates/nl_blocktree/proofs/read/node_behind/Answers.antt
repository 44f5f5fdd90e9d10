use Rattle.std.proofs.Common.{◌≡◌, ◌≤◌, ◌+◌, ℕ, arith, sym, ap, ◌∙◌}
use Rattle.nl_types.specs.Blocks.Roots.{Pages, chain_node, child}
use Rattle.nl_blocktree.specs.Facts.Chains.{chain_node-more, chain_node-lost}
use Rattle.nl_blocktree.proofs.read.node_behind.Goals as goal

pub loop-step-init : goal.loop-step-init
loop-step-init g c = λ top p e.
    let k : p ≡ p + 0 = omega arith in
    e ∙ ap (chain_node (g.V.VRead.pages c.args.store.now) top) k

pub returns-then-is_none : goal.returns-then-is_none
returns-then-is_none g c = λ top p e.
    let step = c.loop-step.step in
    let le : p + step ≤ p + c.args.count = omega arith in
    chain_node-lost c.loop-step.behind (g.V.VRead.pages c.args.store.now) top (p + step) (p + c.args.count)
    (c.loop-step.invariant top p e) c.if-is_none.ensures le

pub loop-step-preserved : goal.loop-step-preserved
loop-step-preserved g c = λ top p e.
    let pages : Pages = g.V.VRead.pages c.args.store.now in
    let step = c.loop-step.step in
    let k : p + step + 1 ≡ p + (step + 1) = omega arith in
    c.child_of-behind.ensures
    ∙ (ap (child pages 127) (c.loop-step.invariant top p e)
    ∙ (sym (chain_node-more pages top (p + step)) ∙ ap (chain_node pages top) k))

pub returns : goal.returns
returns g c = λ top p e.
    let k : c.loop-step.step ≡ c.args.count = omega arith in
    c.loop-step.invariant top p e
    ∙ ap (λ (n : ℕ). chain_node (g.V.VRead.pages c.args.store.now) top (p + n)) k
