use Rattle.std.proofs.Common.{ℕ, List, ap, subst, nat_cmp, None, sym}
use Rattle.std.specs.Option.{IsSome, is_some}
use Rattle.std.specs.BTreeMap.{get_by, is_at}
use Rattle.std.specs.Cmp.Lexicographic.{slice_cmp}
use Rattle.std.specs.Map.{lookup}
use Rattle.nl_tree.proofs.KeptPlaces.{place_inserted}
use Rattle.nl_tree.proofs.listing.Listing.reserve.Goals as goal

pub returns-in_ok-insert-clause-place : goal.returns-in_ok-insert-clause-place
returns-in_ok-insert-clause-place c =
    subst (λ (n : List ℕ). IsSome (get_by (λ k. slice_cmp nat_cmp n k.items) c.insert.new.self))
    c.in_ok-key.ensures
    (ap is_some c.in_ok-insert.ensures.updates.1)

pub returns-in_ok-insert-clause-places : goal.returns-in_ok-insert-clause-places
returns-in_ok-insert-clause-places c = λ other some.
    let kept =
    place_inserted (λ k. is_at (λ k. slice_cmp nat_cmp other k.items) k)
    (λ a b. slice_cmp nat_cmp a.items b.items)
    c.in_ok-key.key None c.args.self.now.map.entries some in
    subst (λ es. IsSome (lookup (is_at (λ k. slice_cmp nat_cmp other k.items)) es))
    (sym c.in_ok-insert.ensures.entries) kept
