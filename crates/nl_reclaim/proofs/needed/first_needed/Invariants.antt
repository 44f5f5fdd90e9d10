use Rattle.std.proofs.Common.{◌*◌}
use Rattle.nl_types.specs.Blocks.Entries.{is_needed}
use Rattle.nl_vstore.specs.Located.{needed_at}
use Rattle.nl_reclaim.specs.Private.Loops.{AreSeen}
use Rattle.nl_reclaim.proofs.needed.first_needed.Given as goal

abbrev pub invariant-loop-position : goal.invariant-loop-position
invariant-loop-position g l =
    AreSeen (needed_at (g.V.Vstore.store l.store) (is_needed (g.K.Keeping.kept l.keeping)))
    (l.segment * (g.V.Vstore.store l.store).segments.blocks) l.limit l.position l.count l.first.items
