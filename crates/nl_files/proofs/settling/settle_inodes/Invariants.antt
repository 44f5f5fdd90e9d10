use Rattle.nl_types.specs.Blocks.Roots.{pages_of}
use Rattle.nl_layout.specs.Root.{root_of}
use Rattle.nl_vstore.specs.Stores.{content_in}
use Rattle.nl_blocktree.specs.Numbering.{CanTake}
use Rattle.nl_tree.specs.Became.{EachMayBecome}
use Rattle.nl_tree.specs.Held.{Holding, IsHolding}
use Rattle.nl_tree.specs.Overlays.{became_in, slot_shows}
use Rattle.nl_tree.specs.Shown.{pair, shown_entries}
use Rattle.nl_files.specs.CheckpointRoots.{Stores, roots_at}
use Rattle.nl_files.specs.Settles.{Settling}
use Rattle.nl_files.proofs.settling.settle_inodes.Given as goal

abbrev pub invariant-loop-number : goal.invariant-loop-number
invariant-loop-number g l = record {
  fits : CanTake (g.V.Vstore.store l.store) l.batch;
  changes : EachMayBecome (shown_entries pair slot_shows l.number-iterator);
  settling : (base : Holding)
      → Stores (pages_of (content_in (g.V.Vstore.store l.store))) (root_of l.root) base
      → IsHolding base
      → Settling (content_in (g.V.Vstore.store l.store))
      (roots_at (pages_of (content_in (g.V.Vstore.store l.store))) (root_of l.root)) base
      l.fn.batch l.batch l.inodes.items (shown_entries pair slot_shows l.number-iterator)
      (became_in l.overlay);
}
