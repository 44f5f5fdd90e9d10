use Rattle.std.proofs.Common.{◌≡◌, ◌≢◌, ℕ, ◌+◌, ◌*◌, Option, Some, None, sym, ap, subst, ◌∙◌}
use Rattle.std.specs.Prelude.{MatchOption}
use Rattle.nl_types.specs.Blocks.Segments.{Segments}
use Rattle.nl_types.specs.Blocks.PartialMaps.{Partial}
use Rattle.nl_dat.specs.Table.{entry_in, addresses_of}
use Rattle.nl_vstore.specs.Stores.{address_in}
use Rattle.nl_vstore.specs.Facts.NumberAt.{at-is}
use Rattle.nl_dat.proofs.StoreOf.{address_in-store_of, same_store}
use Rattle.nl_dat.proofs.dat.DatVstore.at.Goals as goal

-- where a block tells which number alone may have it, none has it if that one hasn't
found : (m : Partial ℕ) (b : ℕ) (may result : Option ℕ) → ((v : ℕ) → m v ≡ Some b → may ≡ Some v)
    → MatchOption result ((v : ℕ) → may ≡ Some v → m v ≢ Some b) (λ v. m v ≡ Some b)
    → MatchOption result ((v : ℕ) → m v ≢ Some b) (λ v. m v ≡ Some b)
found m b may None only h = λ v at. h v (only v at) at
found m b may (Some w) only h = h

pub returns-clause-there : goal.returns-clause-there
returns-clause-there g c =
    let table = c.self.inside.table in
    let space = g.S.Space.content c.self.inside.space in
    let block : c.get.result * c.blocks-2.result + c.args.position
    ≡ c.args.segment * c.args.self.now.store.segments.blocks + c.args.position =
    ap (λ n. n * c.blocks-2.result + c.args.position) c.get.ensures
    ∙ ap (λ n. c.args.segment * n + c.args.position)
    (c.blocks-2.ensures.blocks
    ∙ ap (λ (s : Segments). s.blocks)
    (c.table-table.ensures
    ∙ ap (λ (s : Rattle.nl_vstore.specs.Stores.Store). s.segments) (same_store c.self.view_is))) in
    let same : addresses_of (entry_in c.as_slice.result.now) ≡ address_in c.args.self.now.store =
    ap (λ t. addresses_of (entry_in t)) c.as_slice.ensures
    ∙ sym (address_in-store_of table space (g.S.Space.failed c.self.inside.space) c.self.inside.tabled.sound)
    ∙ ap address_in (same_store c.self.view_is) in
    found (address_in c.args.self.now.store)
    (c.args.segment * c.args.self.now.store.segments.blocks + c.args.position) c.tagged-number.result
    c.number_with.result c.tagged-number.ensures
    (subst (λ (m : Partial ℕ).
    MatchOption c.number_with.result
    ((v : ℕ) → c.tagged-number.result ≡ Some v
    → m v ≢ Some (c.args.segment * c.args.self.now.store.segments.blocks + c.args.position))
    (λ v. m v ≡ Some (c.args.segment * c.args.self.now.store.segments.blocks + c.args.position)))
    same
    (subst (λ (b : ℕ).
    MatchOption c.number_with.result
    ((v : ℕ) → c.tagged-number.result ≡ Some v → addresses_of (entry_in c.as_slice.result.now) v ≢ Some b)
    (λ v. addresses_of (entry_in c.as_slice.result.now) v ≡ Some b))
    block c.number_with.ensures))

pub returns-clause-is : goal.returns-clause-is
returns-clause-is g c =
    at-is c.args.self.now.store
    (c.args.segment * c.args.self.now.store.segments.blocks + c.args.position) c.number_with.result
    c.args.self.now.sound
    (returns-clause-there g c)
