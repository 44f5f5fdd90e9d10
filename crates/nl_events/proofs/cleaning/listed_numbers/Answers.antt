use Rattle.std.proofs.Common.{◌*◌, ◌++◌, [], List, Option, ℕ, ap, sym, ◌∙◌}
use Rattle.nl_vstore.specs.Located.{number_at, onto, picked}
use Rattle.nl_vstore.specs.Facts.CountedRows.{row-grows}
use Rattle.nl_events.proofs.cleaning.listed_numbers.Goals as goal

pub loop-position-preserved : goal.loop-position-preserved
loop-position-preserved g c =
    let store = g.V.Vstore.store c.args.store.now in
    let first = c.args.segment * store.segments.blocks in
    let k = c.loop-position.position in
    c.in_ok-push_found.ensures
    ∙ (ap (λ (ns : List ℕ). ns ++ onto c.at-found.result []) c.loop-position.invariant
    ∙ (ap (λ (o : Option ℕ). picked (number_at store) first k ++ onto o []) c.at-found.ensures.is
    ∙ sym (row-grows (number_at store) first k)))
