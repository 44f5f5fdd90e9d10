use Rattle.nl_shown.specs.Private.Inserting.{FoldersAbove}
use Rattle.nl_shown.specs.Reverted.{IsInOrder}
use Rattle.nl_shown.proofs.reverting.with_folders.Given as goal

abbrev pub invariant-loop-depth : goal.invariant-loop-depth
invariant-loop-depth l =
    IsInOrder l.fn.tree → IsInOrder l.earlier → FoldersAbove l.top l.depth l.earlier l.fn.tree l.tree
