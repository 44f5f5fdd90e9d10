use Rattle.nl_layout.specs.Root.{root_of}
use Rattle.nl_blocktree.specs.Private.Listing.{AreBlocksBefore}
use Rattle.nl_blocktree.proofs.placed.blocks.Given as goal

abbrev pub invariant-loop-level : goal.invariant-loop-level
invariant-loop-level g l =
    AreBlocksBefore (g.V.VRead.pages l.store) (root_of l.root) l.level 0 l.blocks.items
