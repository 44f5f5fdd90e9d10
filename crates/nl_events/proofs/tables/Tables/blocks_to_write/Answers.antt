use Rattle.std.proofs.Common.{ap, length, subst, sym, ◌∙◌}
use Rattle.std.proofs.lemmas.List.{length-map}
use Rattle.nl_vstore.specs.Batches.{birth_of_item}
use Rattle.nl_vstore.specs.Stores.{content_in}
use Rattle.nl_commit.specs.Draft.{CanBeDrafted}
use Rattle.nl_commit.specs.Tables.{RoomyLists}
use Rattle.nl_events.specs.Inside.{lists_of}
use Rattle.nl_events.proofs.Rooms.{has-to_write}
use Rattle.nl_events.proofs.tables.Tables.blocks_to_write.Goals as goal

pub returns-clause-blocks : goal.returns-clause-blocks
returns-clause-blocks g c =
    let store = g.V.Vstore.store c.args.store.now in
    rw (← c.self.view_is)
    (has-to_write (lists_of c.self.inside) store c.latest.result.now c.in_ok-settle.field-0 c.settle.new.batch
    (length c.births.result.now)
    (subst (λ (t : RoomyLists). CanBeDrafted (content_in store) t.lists) (sym c.self.view_is) c.requires)
    c.latest.ensures.latest c.in_ok-settle.ensures.settles c.in_ok-settle.ensures.fits
    (sym (length-map c.births.result.now birth_of_item) ∙ ap length c.births.ensures))
