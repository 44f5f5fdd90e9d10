use Rattle.std.proofs.Common.{◌≡◌, ◌+◌, ◌*◌, ◌<◌, length, sym, subst, ◌∙◌}
use Rattle.nl_vstore.specs.Stores.{Store, tag_in}
use Rattle.nl_dat.specs.Facts.Positions.{tag-row}
use Rattle.nl_dat.proofs.StoreOf.{same_store}
use Rattle.nl_dat.proofs.dat.DatVstore.tag.Goals as goal

pub returns : goal.returns
returns g c =
    let space = g.S.Space.content c.self.inside.space in
    let failures = g.S.Space.failed c.self.inside.space in
    let within =
    subst (λ (s : Store). c.args.segment < length s.segments.each)
    (sym (same_store c.self.view_is)) c.requires.segment in
    let low =
    subst (λ (s : Store). c.args.position < s.segments.blocks)
    (sym (same_store c.self.view_is)) c.requires.position in
    c.row_tag.ensures
    ∙ subst (λ (s : Store).
    Rattle.std.specs.Option.option_map Rattle.nl_vstore.specs.Content.payload_tag
    (Rattle.std.specs.Prelude.slice_index_or c.summary.result.now c.args.position
    Rattle.std.proofs.Common.None)
    ≡ tag_in s (c.args.segment * s.segments.blocks + c.args.position))
    (same_store c.self.view_is)
    (tag-row c.self.inside.table space failures c.summary.result.now c.args.segment c.args.position
    (g.met.S.Space.limits c.self.inside.space).tidy
    (g.met.S.Space.holds_only_used c.self.inside.space) within low c.summary.ensures.count
    c.summary.ensures.each)
