use Rattle.std.proofs.Common.{List, arith, subst, sym}
use Rattle.nl_layout.specs.Root.{root_of}
use Rattle.nl_blocktree.specs.Private.Listing.{AreBlocksBefore}
use Rattle.nl_blocktree.specs.declared.placed.PlacedBlock.{PlacedBlock}
use Rattle.nl_blocktree.proofs.ListedBlocks.{listing-start, listing-up, listing-whole}
use Rattle.nl_blocktree.proofs.placed.blocks.Goals as goal

pub loop-level-init : goal.loop-level-init
loop-level-init g c =
    let pages = g.V.VRead.pages c.args.store.now in
    subst (λ (blocks : List PlacedBlock). AreBlocksBefore pages (root_of c.args.root.now) 0 0 blocks)
    (sym c.new-blocks.ensures.items) (listing-start pages (root_of c.args.root.now))

pub loop-level-preserved : goal.loop-level-preserved
loop-level-preserved g c =
    listing-up (g.V.VRead.pages c.args.store.now) (root_of c.args.root.now) c.loop-level.level c.args.count
    c.list_level.new.blocks.items c.requires.shape c.requires.sized c.in_ok-list_level.ensures.listed

pub returns-clause-all : goal.returns-clause-all
returns-clause-all g c =
    listing-whole (g.V.VRead.pages c.args.store.now) (root_of c.args.root.now) c.loop-level.level
    c.loop-level.blocks.items
    (omega (arith, c.top_level-level-end.ensures.level, c.loop-level-test.false)) c.loop-level.invariant
