use Rattle.std.proofs.Common.{◌≡◌, ◌+◌, ℕ, List, arith, subst, sym}
use Rattle.nl_layout.specs.Root.{root_of}
use Rattle.nl_blocktree.specs.Private.Listing.{AreBlocksBefore}
use Rattle.nl_blocktree.specs.declared.placed.PlacedBlock.{PlacedBlock}
use Rattle.nl_blocktree.proofs.ListedBlocks.{listing-next}
use Rattle.nl_blocktree.proofs.placed.list_level.Goals as goal

pub loop-offset-preserved : goal.loop-offset-preserved
loop-offset-preserved g c =
    let pages = g.V.VRead.pages c.args.store.now in
    subst (λ (blocks : List PlacedBlock).
    AreBlocksBefore pages (root_of c.args.root.now) c.args.level (c.loop-offset.offset + 1) blocks)
    (sym c.in_ok-list_block.ensures.listed)
    (listing-next pages (root_of c.args.root.now) c.args.level c.loop-offset.offset c.loop-offset.blocks.items
    c.loop-offset.invariant c.number_at-number.result c.number_at-number.ensures)

pub returns-clause-listed : goal.returns-clause-listed
returns-clause-listed g c =
    let all : c.loop-offset.offset ≡ c.args.count =
    omega (arith, c.loop-offset-test.false, c.loop-offset.auto.offset-end) in
    subst (λ (n : ℕ). AreBlocksBefore (g.V.VRead.pages c.args.store.now) (root_of c.args.root.now)
    c.args.level n c.loop-offset.blocks.items) all c.loop-offset.invariant
