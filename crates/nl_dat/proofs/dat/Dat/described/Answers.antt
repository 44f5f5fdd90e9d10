use Rattle.std.proofs.Common.{◌≡◌, ◌*◌, ◌<◌, ℕ, IfOk, List, Option, length, sym, ap, subst, ◌∙◌}
use Rattle.nl_types.specs.Blocks.PartialMaps.{Partial}
use Rattle.nl_types.specs.Blocks.Segments.{Segments}
use Rattle.nl_vstore.specs.Content.{Payload}
use Rattle.nl_dat.specs.declared.bdesc.Bdesc.{Bdesc}
use Rattle.nl_dat.specs.Described.{descs_from, descs_of}
use Rattle.nl_vstore.specs.Summaries.{payload_row}
use Rattle.nl_dat.specs.Table.{entry_in, addresses_of}
use Rattle.nl_vstore.specs.Stores.{Store, address_in}
use Rattle.nl_dat.proofs.ShownRows.{row-store_of}
use Rattle.nl_dat.proofs.StoreOf.{address_in-store_of, same_store}
use Rattle.nl_dat.proofs.dat.Dat.described.Goals as goal

-- the same row, from the same block, by the same addresses
same_descs : (s : Store) (segment first : ℕ) (addresses : Partial ℕ) (row : List (Option Payload))
    → addresses ≡ address_in s → first ≡ segment * s.segments.blocks → row ≡ payload_row s segment
    → descs_from addresses first row ≡ descs_of s segment (payload_row s segment)
same_descs s segment first addresses row by at is =
    ap (λ (m : Partial ℕ). descs_from m first row) by ∙ ap (λ (b : ℕ). descs_from (address_in s) b row) at
    ∙ ap (descs_from (address_in s) (segment * s.segments.blocks)) is

pub returns : goal.returns
returns g c =
    let table = c.self.inside.table in
    let space = g.S.Space.content c.self.inside.space in
    let failures = g.S.Space.failed c.self.inside.space in
    let s : Store = c.args.self.now.store in
    let by : addresses_of (entry_in c.as_slice.result.now) ≡ address_in s =
    ap (λ t. addresses_of (entry_in t)) c.as_slice.ensures
    ∙ sym (address_in-store_of table space failures c.self.inside.tabled.sound)
    ∙ ap address_in (same_store c.self.view_is) in
    let at : c.get.result * c.blocks-2.result ≡ c.args.segment * s.segments.blocks =
    ap (λ n. n * c.blocks-2.result) c.get.ensures
    ∙ ap (λ n. c.args.segment * n)
    (c.blocks-2.ensures.blocks
    ∙ ap (λ (t : Segments). t.blocks)
    (c.table.ensures ∙ ap (λ (t : Store). t.segments) (same_store c.self.view_is))) in
    let row : c.summary-row.result.now ≡ payload_row s c.args.segment =
    subst (λ (t : Store). c.summary-row.result.now ≡ payload_row t c.args.segment) (same_store c.self.view_is)
    (row-store_of table space failures c.args.segment c.summary-row.result.now
    (g.met.S.Space.limits c.self.inside.space).tidy
    (subst (λ (t : Store). c.args.segment < length t.segments.each)
    (sym (same_store c.self.view_is)) c.requires)
    c.summary-row.ensures.count c.summary-row.ensures.each) in
    subst (λ (ds : List Bdesc). IfOk c.describe_row.result (λ descs. descs.items ≡ ds))
    (same_descs s c.args.segment _ _ c.summary-row.result.now by at row) c.describe_row.ensures
