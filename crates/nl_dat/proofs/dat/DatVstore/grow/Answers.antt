use Rattle.std.proofs.Common.{◌≡◌, ℕ, ◌+◌, ◌-◌, ◌*◌, ◌≤◌, ◌++◌, length, take, List, Option, None, ap, sym, subst, ◌∙◌, arith}
use Rattle.std.specs.Prelude.{Err, replicate}
use Rattle.std.proofs.Math.Nat.{mul-le-mul_right}
use Rattle.nl_device.specs.Failures.{failure_count}
use Rattle.nl_types.specs.Blocks.Segments.{Segments}
use Rattle.nl_vstore.specs.Content.{IsGrown, SpaceContent}
use Rattle.nl_vstore.specs.Stores.{HasGrown, IsGrowthRefused, Store}
use Rattle.nl_dat.specs.declared.entries.DatEntry.{DatEntry}
use Rattle.nl_dat.specs.Inside.{IsDatTable, store_of}
use Rattle.nl_dat.proofs.GrownTable.{front, has-grown, table-grown}
use Rattle.nl_dat.proofs.Refusals.{growth-refused, writes-counted}
use Rattle.nl_dat.proofs.StoreOf.{is_store, same_store}
use Rattle.nl_dat.proofs.dat.DatVstore.grow.Goals as goal

-- what was added is taken off again
pub invariant_of-self-inside-in-Err : goal.invariant_of-self-inside-in-Err
invariant_of-self-inside-in-Err g c =
    let table = c.self.inside.table in
    let later = g.S.Space.content c.grow.new.self in
    let is : c.truncate.new.self ≡ table =
    c.truncate.ensures ∙ rw (c.in_ok-add_places.ensures.added, c.len-count.ensures) (front table _) in
    let same : later ≡ g.S.Space.content c.self.inside.space = c.in-Err.ensures.same in
    let tabled : IsDatTable c.truncate.new.self (c.self.inside.filled + 1) later =
    subst (λ (t : List (Option DatEntry)). IsDatTable t (c.self.inside.filled + 1) later) (sym is)
    (subst (IsDatTable table (c.self.inside.filled + 1)) (sym same) c.self.inside.tabled) in (
      is_store c.truncate.new.self (c.self.inside.filled + 1) later (g.S.Space.failed c.grow.new.self) tabled
          (g.met.S.Space.limits c.grow.new.self) (g.met.S.Space.whole_logs c.grow.new.self)
          (g.met.S.Space.holds_only_used c.grow.new.self) (g.met.S.Space.have_logs c.grow.new.self),
      (tabled, tt),
    )

-- as many places as blocks, and one for 0
added-at : (table places : List (Option DatEntry)) (segments now blocks : ℕ) → now ≡ blocks
    → places ≡ table ++ replicate (segments * now + 1 - length table) None
    → places ≡ table ++ replicate (segments * blocks + 1 - length table) None
added-at table places segments now blocks same is =
    is ∙ ap (λ b. table ++ replicate (segments * b + 1 - length table) None) same

pub invariant_of-self-inside-in-Ok : goal.invariant_of-self-inside-in-Ok
invariant_of-self-inside-in-Ok g c =
    let table = c.self.inside.table in
    let old = g.S.Space.content c.self.inside.space in
    let later = g.S.Space.content c.grow.new.self in
    let blocks : c.blocks-2.result ≡ old.segments.blocks =
    c.blocks-2.ensures.blocks ∙ ap (λ (s : Segments). s.blocks) c.table.ensures in
    let is =
    added-at table c.add_places.new.places c.args.segments c.blocks-2.result old.segments.blocks blocks
    c.in_ok-add_places.ensures.added in
    let more : length old.segments.each ≤ c.args.segments =
    subst (λ (s : Store). length s.segments.each ≤ c.args.segments)
    (sym (same_store c.self.view_is)) c.requires.more in
    let tabled : IsDatTable c.add_places.new.places (c.self.inside.filled + 1) later =
    subst (λ (t : List (Option DatEntry)). IsDatTable t (c.self.inside.filled + 1) later) (sym is)
    (table-grown table (c.self.inside.filled + 1) c.args.segments old later
    (g.S.Space.failed c.self.inside.space) (g.S.Space.failed c.grow.new.self) c.self.inside.tabled
    (g.met.S.Space.limits c.self.inside.space).tidy c.growing_keeps_segments.ensures.used
    (g.met.S.Space.holds_only_used c.self.inside.space) more c.in-Ok.ensures.grown) in (
      is_store c.add_places.new.places (c.self.inside.filled + 1) later
          (g.S.Space.failed c.grow.new.self) tabled (g.met.S.Space.limits c.grow.new.self)
          (g.met.S.Space.whole_logs c.grow.new.self) (g.met.S.Space.holds_only_used c.grow.new.self)
          (g.met.S.Space.have_logs c.grow.new.self),
      (tabled, tt),
    )

pub returns-in-Ok-clause-grown : goal.returns-in-Ok-clause-grown
returns-in-Ok-clause-grown g c =
    let table = c.self.inside.table in
    let old = g.S.Space.content c.self.inside.space in
    let later = g.S.Space.content c.grow.new.self in
    let before = g.S.Space.failed c.self.inside.space in
    let after = g.S.Space.failed c.grow.new.self in
    let blocks : c.blocks-2.result ≡ old.segments.blocks =
    c.blocks-2.ensures.blocks ∙ ap (λ (s : Segments). s.blocks) c.table.ensures in
    let is =
    added-at table c.add_places.new.places c.args.segments c.blocks-2.result old.segments.blocks blocks
    c.in_ok-add_places.ensures.added in
    let more : length old.segments.each ≤ c.args.segments =
    subst (λ (s : Store). length s.segments.each ≤ c.args.segments)
    (sym (same_store c.self.view_is)) c.requires.more in
    subst (λ (s : Store). HasGrown c.args.segments s (store_of c.add_places.new.places later after))
    (same_store c.self.view_is)
    (subst (λ (t : List (Option DatEntry)).
    HasGrown c.args.segments (store_of table old before) (store_of t later after))
    (sym is)
    (has-grown table (c.self.inside.filled + 1) c.args.segments old later before after c.self.inside.tabled
    (g.met.S.Space.limits c.self.inside.space).tidy c.growing_keeps_segments.ensures.used
    (g.met.S.Space.holds_only_used c.self.inside.space) more c.in-Ok.ensures.grown c.in-Ok.ensures.unfailed))

pub invariant_of-self-inside : goal.invariant_of-self-inside
invariant_of-self-inside g c =
    let space = g.S.Space.content c.self.inside.space in
    let tabled : IsDatTable c.add_places.new.places (c.self.inside.filled + 1) space =
    subst (λ (t : List (Option DatEntry)). IsDatTable t (c.self.inside.filled + 1) space)
    (sym c.in_err-add_places.ensures.refused) c.self.inside.tabled in (
      is_store c.add_places.new.places (c.self.inside.filled + 1) space
          (g.S.Space.failed c.self.inside.space) tabled (g.met.S.Space.limits c.self.inside.space)
          (g.met.S.Space.whole_logs c.self.inside.space) (g.met.S.Space.holds_only_used c.self.inside.space)
          (g.met.S.Space.have_logs c.self.inside.space),
      (tabled, tt),
    )

-- there are no more blocks before
pub add_places-requires : goal.add_places-requires
add_places-requires g c =
    let old = g.S.Space.content c.self.inside.space in
    let blocks : c.blocks-2.result ≡ old.segments.blocks =
    c.blocks-2.ensures.blocks ∙ ap (λ (s : Segments). s.blocks) c.table.ensures in
    let more : length old.segments.each ≤ c.args.segments =
    subst (λ (s : Store). length s.segments.each ≤ c.args.segments)
    (sym (same_store c.self.view_is)) c.requires.more in
    let most : length old.segments.each * old.segments.blocks ≤ c.args.segments * old.segments.blocks =
    mul-le-mul_right old.segments.blocks more in
    rw blocks (omega (arith, most, c.self.inside.tabled.full))

pub returns-in-Ok-clause-counted : goal.returns-in-Ok-clause-counted
returns-in-Ok-clause-counted g c =
    subst (λ (s : Store). s.failures ≤ failure_count (g.S.Space.failed c.grow.new.self))
    (same_store c.self.view_is)
    (writes-counted (g.S.Space.failed c.self.inside.space) _ c.in-Ok.ensures.counted)

pub returns-in-Err-clause-counted : goal.returns-in-Err-clause-counted
returns-in-Err-clause-counted g c =
    subst (λ (s : Store). s.failures ≤ failure_count (g.S.Space.failed c.grow.new.self))
    (same_store c.self.view_is)
    (writes-counted (g.S.Space.failed c.self.inside.space) _ c.in-Err.ensures.counted)

pub returns-in-Err-clause-refused : goal.returns-in-Err-clause-refused
returns-in-Err-clause-refused g c =
    let table = c.self.inside.table in
    let later = g.S.Space.content c.grow.new.self in
    let after = g.S.Space.failed c.grow.new.self in
    subst (λ (s : Store). IsGrowthRefused s (store_of c.truncate.new.self later after) c.in-Err.refusal)
    (same_store c.self.view_is)
    (growth-refused table c.truncate.new.self (g.S.Space.content c.self.inside.space) later
    (g.S.Space.failed c.self.inside.space) after c.in-Err.refusal c.in-Err.ensures.errors
    (c.truncate.ensures ∙ rw (c.in_ok-add_places.ensures.added, c.len-count.ensures) (front table _))
    c.in-Err.ensures.same (λ is. c.in-Err.ensures.fault (ap Err is))
    (λ is. c.in-Err.ensures.untried (ap Err is)))
