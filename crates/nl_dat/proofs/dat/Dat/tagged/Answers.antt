use Rattle.std.proofs.Common.{◌≡◌, ℕ, ◌+◌, ◌*◌, ◌<◌, Some, sym, ap, subst, ◌∙◌}
use Rattle.nl_types.specs.Blocks.PartialMaps.{Partial}
use Rattle.nl_vstore.specs.Stores.{Store, address_in}
use Rattle.nl_dat.proofs.StoreOf.{address_in-store_of, same_store}
use Rattle.nl_dat.specs.Facts.Positions.{tagged-row}
use Rattle.nl_dat.proofs.dat.Dat.tagged.Goals as goal

pub returns : goal.returns
returns g c =
    let table = c.self.inside.table in
    let space = g.S.Space.content c.self.inside.space in
    let failures = g.S.Space.failed c.self.inside.space in
    let tidy = (g.met.S.Space.limits c.self.inside.space).tidy in
    let within =
    subst (λ (s : Store). c.args.position < s.segments.blocks)
    (sym (same_store c.self.view_is)) c.requires.position in
    subst (λ (s : Store).
    (v : ℕ) → address_in s v ≡ Some (c.args.segment * s.segments.blocks + c.args.position)
    → c.number_in.result ≡ Some v)
    (same_store c.self.view_is)
    (λ v at. c.number_in.ensures
    ∙ tagged-row table
    (c.self.inside.filled + 1) space c.summary.result.now c.args.segment c.args.position v tidy
    c.self.inside.tabled c.summary.ensures.count c.summary.ensures.each within
    (sym (ap (λ (m : Partial ℕ). m v) (address_in-store_of table space failures c.self.inside.tabled.sound))
    ∙ at))
