use Rattle.std.proofs.Common.{◌≡◌, true, ℕ, ◌+◌, ◌≤◌, Option, Some, None, sym, subst, length, IfOk, OnErr, arith}
use Rattle.std.specs.Prelude.{MatchOption, max}
use Rattle.std.specs.Option.{ok_or}
use Rattle.nl_types.specs.declared.error.VolError.{VolError}
use Rattle.nl_types.specs.declared.error.VolError.TheVariants.{NoSpace}
use Rattle.nl_vstore.specs.Batches.{CanBeTaken, LacksSpaceFrom, IsLowestFree, is_taken, last_number}
use Rattle.nl_dat.specs.Table.{AreInUse, IsFirstFree}
use Rattle.nl_vstore.specs.Stores.{Store, content_in, capacity}
use Rattle.nl_dat.proofs.FreeNumbers.{all-taken, lowest-free, no_number-no_space}
use Rattle.nl_dat.proofs.StoreOf.{same_store}
use Rattle.nl_dat.proofs.dat.DatVstore.fresh.Goals as goal

found_or : (P : Type 0) (Q R : ℕ → Type 0) (o : Option ℕ) (e : VolError) → MatchOption o P Q
    → ((n : ℕ) → Q n → R n) → IfOk (ok_or o e) R
found_or P Q R None e h f = tt
found_or P Q R (Some n) e h f = f n h

none_or : (P T : Type 0) (Q : ℕ → Type 0) (o : Option ℕ) (e : VolError) → MatchOption o P Q → (P → T)
    → OnErr (ok_or o e) T
none_or P T Q None e h f = f h
none_or P T Q (Some n) e h f = tt

pub returns-clause-lowest : goal.returns-clause-lowest
returns-clause-lowest g c =
    let table = c.self.inside.table in
    let lowest = c.self.inside.filled + 1 in
    let changes = c.args.batch.now in
    let first : c.max-first.result + 1 ≡ max lowest (last_number changes.births + 1) =
    omega (arith, c.max-first.ensures, c.get.ensures, c.last_number.ensures) in
    let found : MatchOption c.first_free.result
    (AreInUse table (max lowest (last_number changes.births + 1)) (length table))
    (IsFirstFree table (max lowest (last_number changes.births + 1))) =
    subst (λ f. MatchOption c.first_free.result (AreInUse table f (length table)) (IsFirstFree table f)) first
    (subst (λ t.
    MatchOption c.first_free.result (AreInUse t (c.max-first.result + 1) (length t))
    (IsFirstFree t (c.max-first.result + 1)))
    c.as_slice.ensures c.first_free.ensures) in
    let fits =
    subst (λ (s : Store). CanBeTaken (capacity s) (content_in s) changes)
    (sym (same_store c.self.view_is)) c.requires in
    subst (λ r. IfOk r (IsLowestFree (content_in c.args.self.now.store) changes.births))
    (sym c.ok_or.ensures.value)
    (subst (λ s. IfOk (ok_or c.first_free.result NoSpace) (IsLowestFree (content_in s) changes.births))
    (same_store c.self.view_is)
    (found_or _ _ _ c.first_free.result NoSpace found
    (lowest-free table lowest (g.S.Space.content c.self.inside.space)
    (g.S.Space.failed c.self.inside.space) changes c.self.inside.tabled fits)))

pub returns-clause-lacks_space : goal.returns-clause-lacks_space
returns-clause-lacks_space g c =
    let table = c.self.inside.table in
    let lowest = c.self.inside.filled + 1 in
    let changes = c.args.batch.now in
    let space = g.S.Space.content c.self.inside.space in
    let first : c.max-first.result + 1 ≡ max lowest (last_number changes.births + 1) =
    omega (arith, c.max-first.ensures, c.get.ensures, c.last_number.ensures) in
    let found : MatchOption c.first_free.result
    (AreInUse table (max lowest (last_number changes.births + 1)) (length table))
    (IsFirstFree table (max lowest (last_number changes.births + 1))) =
    subst (λ f. MatchOption c.first_free.result (AreInUse table f (length table)) (IsFirstFree table f)) first
    (subst (λ t.
    MatchOption c.first_free.result (AreInUse t (c.max-first.result + 1) (length t))
    (IsFirstFree t (c.max-first.result + 1)))
    c.as_slice.ensures c.first_free.ensures) in
    let fits =
    subst (λ (s : Store). CanBeTaken (capacity s) (content_in s) changes)
    (sym (same_store c.self.view_is)) c.requires in
    let tidy = (g.met.S.Space.limits c.self.inside.space).tidy in
    subst (λ r. OnErr r (LacksSpaceFrom c.args.self.now.store.segments (length changes.births + 1)))
    (sym c.ok_or.ensures.value)
    (subst (λ (s : Store).
    OnErr (ok_or c.first_free.result NoSpace) (LacksSpaceFrom s.segments (length changes.births + 1)))
    (same_store c.self.view_is)
    (none_or _ _ _ c.first_free.result NoSpace found
    (no_number-no_space table lowest space
    (g.S.Space.failed c.self.inside.space) changes c.self.inside.tabled fits
    c.payload_goes_to_unused_blocks.ensures.room tidy)))

pub returns-clause-all_taken : goal.returns-clause-all_taken
returns-clause-all_taken g c =
    let table = c.self.inside.table in
    let lowest = c.self.inside.filled + 1 in
    let changes = c.args.batch.now in
    let space = g.S.Space.content c.self.inside.space in
    let first : c.max-first.result + 1 ≡ max lowest (last_number changes.births + 1) =
    omega (arith, c.max-first.ensures, c.get.ensures, c.last_number.ensures) in
    let found : MatchOption c.first_free.result
    (AreInUse table (max lowest (last_number changes.births + 1)) (length table))
    (IsFirstFree table (max lowest (last_number changes.births + 1))) =
    subst (λ f. MatchOption c.first_free.result (AreInUse table f (length table)) (IsFirstFree table f)) first
    (subst (λ t.
    MatchOption c.first_free.result (AreInUse t (c.max-first.result + 1) (length t))
    (IsFirstFree t (c.max-first.result + 1)))
    c.as_slice.ensures c.first_free.ensures) in
    let fits =
    subst (λ (s : Store). CanBeTaken (capacity s) (content_in s) changes)
    (sym (same_store c.self.view_is)) c.requires in
    subst (λ r.
    OnErr r ((v : ℕ) → 1 ≤ v → v ≤ capacity c.args.self.now.store
    → is_taken (content_in c.args.self.now.store) changes.births v ≡ true))
    (sym c.ok_or.ensures.value)
    (subst (λ (s : Store).
    OnErr (ok_or c.first_free.result NoSpace)
    ((v : ℕ) → 1 ≤ v → v ≤ capacity s → is_taken (content_in s) changes.births v ≡ true))
    (same_store c.self.view_is)
    (none_or _ _ _ c.first_free.result NoSpace found
    (all-taken table lowest space (g.S.Space.failed c.self.inside.space) changes c.self.inside.tabled fits)))
