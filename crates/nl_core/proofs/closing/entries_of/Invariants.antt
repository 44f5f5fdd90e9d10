use Rattle.std.proofs.Common.{take}
use Rattle.nl_types.specs.Blocks.Roots.{pages_of}
use Rattle.nl_vstore.specs.Stores.{content_in}
use Rattle.nl_core.specs.Private.Closed.{AreSized}
use Rattle.nl_core.proofs.closing.entries_of.Given as goal

abbrev pub invariant-loop-checkpoint : goal.invariant-loop-checkpoint
invariant-loop-checkpoint g l =
    AreSized (pages_of (content_in (g.V.Vstore.store l.store)))
    (take l.checkpoint-index l.kept) l.entries.items
