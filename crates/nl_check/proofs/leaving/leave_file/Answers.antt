use Rattle.std.proofs.Common.{ℕ, suc, sym, subst}
use Rattle.std.proofs.lemmas.Result.{on_ok_weaker}
use Rattle.std.specs.Prelude.{OnOk}
use Rattle.nl_types.specs.Blocks.Roots.{Pages, Root, Tree}
use Rattle.nl_layout.specs.Root.{root_of}
use Rattle.nl_layout.specs.declared.root.Root.{Root as CodeRoot}
use Rattle.nl_blocktree.specs.FileShapes.{HasShape}
use Rattle.nl_check.specs.Private.BesideTrees.{HasLeft, StandAt, StandsAnew}
use Rattle.nl_check.specs.Private.ChangedFiles.{IsLostIn, of_height}
use Rattle.nl_check.proofs.FilesBeside.{left-empty, left-tree, stands-top, top-there}
use Rattle.nl_check.proofs.leaving.leave_file.Goals as goal

pub returns-in-Empty-clause-left : goal.returns-in-Empty-clause-left
returns-in-Empty-clause-left g c =
    let pages : Pages = g.V.VRead.pages c.args.store.now in
    subst (λ (r : CodeRoot). HasLeft (ℕ × ℕ) (IsLostIn pages (root_of r) (root_of c.args.now)) c.args.met.now
    c.args.met.now) (sym c.in-Empty.is) (left-empty pages (root_of c.args.now) c.args.met.now)

pub returns-in-Tree-clause-left : goal.returns-in-Tree-clause-left
returns-in-Tree-clause-left g c =
    let pages : Pages = g.V.VRead.pages c.args.store.now in
    let height : ℕ = c.in-Tree.height in
    let top : ℕ = c.in-Tree.top in
    let shape : HasShape pages (Tree height top) =
    subst (λ (r : CodeRoot). HasShape pages (root_of r)) c.in-Tree.is c.requires.shape in
    let left = rw c.get.ensures.value at c.leave_below.ensures.left in
    subst (λ (r : CodeRoot). OnOk c.leave_below.result
    (HasLeft (ℕ × ℕ) (IsLostIn pages (root_of r) (root_of c.args.now)) c.args.met.now c.leave_below.new.met))
    (sym c.in-Tree.is)
    (on_ok_weaker
    {P = (h t offset : ℕ) (other : Root) → StandAt pages h t other height offset top c.top_beside.result
    → HasLeft (ℕ × ℕ) (StandsAnew pages (Tree h t) other height offset (suc offset)) c.args.met.now
    c.leave_below.new.met}
    {Q = HasLeft (ℕ × ℕ) (IsLostIn pages (Tree height top) (root_of c.args.now)) c.args.met.now
    c.leave_below.new.met}
    c.leave_below.result
    (λ all.
    left-tree pages height top (root_of c.args.now) c.args.met.now c.leave_below.new.met
    (all height top 0 (of_height height (root_of c.args.now))
    (stands-top pages height top (root_of c.args.now) c.top_beside.result (top-there pages height top shape)
    (c.top_beside.ensures pages))))
    left)
