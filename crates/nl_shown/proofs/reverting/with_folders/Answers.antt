use Rattle.std.proofs.Common.{take, subst}
use Rattle.std.proofs.lemmas.Result.{err_from_is_err_and}
use Rattle.std.proofs.Common.{Option}
use Rattle.nl_manifests.specs.declared.attributes.Attributes.{Attributes}
use Rattle.nl_shown.specs.Private.Inserting.{PutsFolder}
use Rattle.nl_shown.proofs.RevertedTrees.{folder_refused, folders_on}
use Rattle.nl_shown.proofs.reverting.with_folders.Goals as goal

pub returns-in_err-tree-clause-refused : goal.returns-in_err-tree-clause-refused
returns-in_err-tree-clause-refused c =
    let p = err_from_is_err_and c.from_residual.result c.from_residual.ensures.1 in
    rw (p.1, p.2) (λ sorted other.
    let were = c.loop-depth.invariant sorted other in
    folder_refused c.args.top.now c.loop-depth.depth c.args.earlier.now c.args.tree c.loop-depth.tree
    c.in_err-tree.field-0.0 c.loop-depth-test.true were (c.in_err-tree.ensures.refused were.ordered))

pub loop-depth-preserved : goal.loop-depth-preserved
loop-depth-preserved c sorted other =
    let were = c.loop-depth.invariant sorted other in
    folders_on c.args.top.now c.loop-depth.depth c.args.earlier.now c.args.tree c.loop-depth.tree
    c.in_ok-tree.tree c.loop-depth-test.true were
    (subst (λ (a : Option Attributes). PutsFolder (take c.loop-depth.depth c.args.top.now) a c.loop-depth.tree
    c.in_ok-tree.tree) (c.attributes_at.ensures other) (c.in_ok-tree.ensures.done were.ordered))
