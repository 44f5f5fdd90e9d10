use Rattle.std.proofs.Common.{ℕ, ap, ◌∙◌, arith}
use Rattle.std.specs.Option.{option_map}
use Rattle.nl_vstore.specs.Stores.{numbered_in}
use Rattle.nl_commit.specs.Notes.{shown_page}
use Rattle.nl_events.proofs.ShownStores.{shown-more}
use Rattle.nl_events.proofs.showing.shown_numbers.Goals as goal

pub loop-number-preserved : goal.loop-number-preserved
loop-number-preserved g c =
    let store = g.V.Vstore.store c.args.store.now in
    let is_store = g.met.V.Vstore.is_store c.args.store.now in
    shown-more store c.loop-number.number c.in_ok-page.page c.loop-number.numbers.items c.push.new.self.items
    (omega (arith, c.loop-number-test.true, c.capacity-count.ensures.count, is_store.full))
    c.loop-number.invariant
    (c.in_ok-page.ensures ∙ ap (λ (v : ℕ). option_map shown_page (numbered_in store v)) c.new.ensures)
    c.in_ok-push.ensures.items
