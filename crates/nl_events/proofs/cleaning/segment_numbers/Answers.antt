use Rattle.std.proofs.Common.{◌≡◌, Err, refl, arith}
use Rattle.std.proofs.lemmas.Result.{IfOk-weaker}
use Rattle.nl_vstore.specs.Located.{numbers_in}
use Rattle.nl_events.specs.Facts.Outside.{no-segment}
use Rattle.nl_events.proofs.cleaning.segment_numbers.Goals as goal

pub returns-in-Ok : goal.returns-in-Ok
returns-in-Ok g c =
    let store = g.V.Vstore.store c.args.store.now in
    IfOk-weaker c.listed_numbers.result (λ numbers. numbers.items ≡ numbers_in store c.args.segment) _
    (λ numbers is. λ there. is)
    c.listed_numbers.ensures

pub returns-in-Err : goal.returns-in-Err
returns-in-Err g c =
    let store = g.V.Vstore.store c.args.store.now in
    let past =
    no-segment store.segments c.table.result.now c.args.segment
    (Err c.in-Err.field-0) c.in-Err.field-0 c.table.ensures refl c.in-Err.ensures.info in
    λ there. absurd (omega (arith, there, past))
