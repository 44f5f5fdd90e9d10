use Rattle.std.proofs.Common.{◌≡◌, ℕ, ◌-◌, ◌*◌, Some, None, List, Option, sym, ap, ◌∙◌}
use Rattle.std.specs.Prelude.{slice_index_or}
use Rattle.std.specs.Option.{option_map}
use Rattle.nl_types.specs.Blocks.Segments.{Segments}
use Rattle.nl_layout.specs.declared.tag.Tag.{Tag}
use Rattle.nl_vstore.specs.Content.{Payload, SpaceContent, payload_tag}
use Rattle.nl_dat.proofs.Loading.{found, loaded}
use Rattle.nl_dat.proofs.moving.load_one.Goals as goal

-- where the block is read from: the row of the segment at the block's position
read_at : (space : SpaceContent) (lent : Segments) (segment read blocks block read_block : ℕ)
    (row : List (Option Payload)) (o : Option Tag)
    → read ≡ segment → blocks ≡ lent.blocks → lent ≡ space.segments → read_block ≡ block
    → o ≡ option_map payload_tag (slice_index_or row (read_block - read * blocks) None)
    → option_map payload_tag (slice_index_or row (block - segment * space.segments.blocks) None) ≡ o
read_at space lent segment read blocks block read_block row o read_is blocks_is lent_is block_is is =
    let first : read * blocks ≡ segment * space.segments.blocks =
    ap (λ n. n * blocks) read_is
    ∙ ap (λ n. segment * n) (blocks_is ∙ ap (λ (s : Segments). s.blocks) lent_is) in
    sym (is ∙ ap (λ n. option_map payload_tag (slice_index_or row (n - read * blocks) None)) block_is
    ∙ ap (λ n. option_map payload_tag (slice_index_or row (block - n) None)) first)

pub unreachable-requires-in-None-row_tag : goal.unreachable-requires-in-None-row_tag
unreachable-requires-in-None-row_tag g c =
    let space = g.S.Space.content c.args.space.now in
    let there = sym c.entry_at.ensures ∙ c.in-Some.is in
    let f =
    found c.args.table.now space c.summary.result.now c.args.segment c.args.number c.in-Some.entry
    (g.met.S.Space.limits c.args.space.now).tidy c.requires.backed there c.requires.inside
    c.summary.ensures.count c.summary.ensures.each in
    let tag =
    read_at space c.table-segments.result.now c.args.segment c.get.result c.blocks-2.result
    c.in-Some.entry.block c.get-2.result c.summary.result.now c.row_tag.result c.get.ensures
    c.blocks-2.ensures.blocks c.table-segments.ensures c.get-2.ensures c.row_tag.ensures in
    let some_none : Some (payload_tag f.payload) ≡ None =
    sym (ap (option_map payload_tag) f.in_row) ∙ tag ∙ c.in-None-row_tag.is in
    cc

pub returns-clause-payload : goal.returns-clause-payload
returns-clause-payload g c =
    let space = g.S.Space.content c.args.space.now in
    let there = sym c.entry_at.ensures ∙ c.in-Some.is in
    let f =
    found c.args.table.now space c.summary.result.now c.args.segment c.args.number c.in-Some.entry
    (g.met.S.Space.limits c.args.space.now).tidy c.requires.backed there c.requires.inside
    c.summary.ensures.count c.summary.ensures.each in
    let tag =
    read_at space c.table-segments.result.now c.args.segment c.get.result c.blocks-2.result
    c.in-Some.entry.block c.get-2.result c.summary.result.now c.row_tag.result c.get.ensures
    c.blocks-2.ensures.blocks c.table-segments.ensures c.get-2.ensures c.row_tag.ensures in
    loaded c.args.table.now space c.summary.result.now
    (c.args.segment * space.segments.blocks) c.args.number c.in-Some.entry c.in-Some-row_tag.tag
    c.in_ok-page.page there f
    (tag ∙ c.in-Some-row_tag.is) c.in_ok-page.ensures.page
