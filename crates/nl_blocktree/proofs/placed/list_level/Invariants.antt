use Rattle.nl_layout.specs.Root.{root_of}
use Rattle.nl_blocktree.specs.Private.Listing.{AreBlocksBefore}
use Rattle.nl_blocktree.proofs.placed.list_level.Given as goal

abbrev pub invariant-loop-offset : goal.invariant-loop-offset
invariant-loop-offset g l =
    AreBlocksBefore (g.V.VRead.pages l.store) (root_of l.root) l.level l.offset l.blocks.items
