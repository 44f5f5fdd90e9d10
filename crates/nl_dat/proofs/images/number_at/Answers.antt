use Rattle.std.proofs.Common.{◌≡◌, ℕ, ◌/◌, ◌*◌, ◌∙◌, ap, refl, length}
use Rattle.nl_types.specs.Blocks.Segments.{Segments, info_of}
use Rattle.nl_vstore.specs.Content.{IsRowOf, SpaceContent}
use Rattle.nl_dat.proofs.OwnPayload.{number_in-row, used_segment}
use Rattle.nl_dat.proofs.images.number_at.Goals as goal

pub summary-requires : goal.summary-requires
summary-requires g c =
    let space : SpaceContent = g.S.Space.content c.args.space.now in
    let blocks : c.blocks-blocks.result ≡ space.segments.blocks =
    c.blocks-blocks.ensures.blocks ∙ ap (λ (s : Segments). s.blocks) c.table.ensures in
    let segment : c.new-segment.result ≡ c.args.block / space.segments.blocks =
    c.new-segment.ensures ∙ rw (c.get.ensures, blocks) refl in
    rw segment (used_segment space.segments c.args.block (g.met.S.Space.limits c.args.space.now) c.requires)

pub returns : goal.returns
returns g c =
    let space : SpaceContent = g.S.Space.content c.args.space.now in
    let blocks : c.blocks-blocks.result ≡ space.segments.blocks =
    c.blocks-blocks.ensures.blocks ∙ ap (λ (s : Segments). s.blocks) c.table.ensures in
    let segment : c.new-segment.result ≡ c.args.block / space.segments.blocks =
    c.new-segment.ensures ∙ rw (c.get.ensures, blocks) refl in
    let row = c.summary.result.now in
    let count : length row ≡ (info_of space.segments.each (c.args.block / space.segments.blocks)).used =
    c.summary.ensures.count ∙ ap (λ (k : ℕ). (info_of space.segments.each k).used) segment in
    let each : IsRowOf space.held (c.args.block / space.segments.blocks * space.segments.blocks) row =
    rw segment at c.summary.ensures.each in
    c.number_in.ensures
    ∙ (rw (c.get-2.ensures, blocks) refl
    ∙ number_in-row space row c.args.block (g.met.S.Space.limits c.args.space.now) c.requires count each)
