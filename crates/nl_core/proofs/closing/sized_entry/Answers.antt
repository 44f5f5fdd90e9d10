use Rattle.std.proofs.Common.{subst}
use Rattle.std.specs.Prelude.{IsSome}
use Rattle.nl_types.specs.Blocks.Roots.{Pages}
use Rattle.nl_core.proofs.Closed.{within-capacity}
use Rattle.nl_core.proofs.closing.sized_entry.Goals as goal

pub size_of_blocks-requires-clause-within : goal.size_of_blocks-requires-clause-within
size_of_blocks-requires-clause-within g c v some =
    let s = c.args.store.now in
    rw c.capacity.ensures.count
    (within-capacity (g.V.Vstore.store s) (g.met.V.Vstore.is_store s) v
    (subst (λ (pages : Pages). IsSome (pages v)) (g.met.V.Vstore.reads_pages s) some))
