use Rattle.std.proofs.Common.{◌≡◌, ℕ, ◌/◌, sym, ap, subst, ◌∙◌}
use Rattle.std.specs.Option.{option_map}
use Rattle.nl_types.specs.Blocks.Segments.{Segments}
use Rattle.nl_types.specs.Blocks.PartialMaps.{Partial}
use Rattle.nl_dat.specs.Table.{entry_in, addresses_of}
use Rattle.nl_vstore.specs.Counts.{IsSegmentOf}
use Rattle.nl_vstore.specs.Stores.{Store, address_in}
use Rattle.nl_dat.proofs.SegmentOf.{is_segment}
use Rattle.nl_dat.proofs.StoreOf.{address_in-store_of, same_store}
use Rattle.nl_dat.proofs.dat.DatVstore.segment_of.Goals as goal

pub returns : goal.returns
returns g c =
    let table = c.self.inside.table in
    let space = g.S.Space.content c.self.inside.space in
    let blocks : c.blocks-blocks.result ≡ c.args.self.now.store.segments.blocks =
    c.blocks-blocks.ensures.blocks
    ∙ ap (λ (s : Segments). s.blocks)
    (c.table.ensures ∙ ap (λ (s : Store). s.segments) (same_store c.self.view_is)) in
    let same : addresses_of (entry_in c.as_slice.result.now) ≡ address_in c.args.self.now.store =
    ap (λ t. addresses_of (entry_in t)) c.as_slice.ensures
    ∙ sym (address_in-store_of table space (g.S.Space.failed c.self.inside.space) c.self.inside.tabled.sound)
    ∙ ap address_in (same_store c.self.view_is) in
    subst (IsSegmentOf c.args.self.now.store c.args.number)
    (sym (c.segment_at.ensures
    ∙ ap (λ (m : Partial ℕ). option_map (λ b. b / c.blocks-blocks.result) (m c.args.number)) same
    ∙ ap (λ (n : ℕ). option_map (λ b. b / n) (address_in c.args.self.now.store c.args.number)) blocks))
    (is_segment c.args.self.now.store c.args.number c.args.self.now.sound)
