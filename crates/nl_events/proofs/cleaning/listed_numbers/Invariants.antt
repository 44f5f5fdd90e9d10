use Rattle.std.proofs.Common.{◌≡◌, ◌*◌}
use Rattle.nl_vstore.specs.Located.{number_at, picked}
use Rattle.nl_events.proofs.cleaning.listed_numbers.Given as goal

abbrev pub invariant-loop-position : goal.invariant-loop-position
invariant-loop-position g l =
    let store = g.V.Vstore.store l.store in
    l.numbers.items ≡ picked (number_at store) (l.segment * store.segments.blocks) l.position
