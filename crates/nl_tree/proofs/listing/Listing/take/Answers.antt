use Rattle.std.proofs.Common.{◌∙◌, None, nat_cmp, sym, ap, subst}
use Rattle.std.specs.Option.{IsSome}
use Rattle.std.specs.Map.{lookup}
use Rattle.std.specs.BTreeMap.{is_at}
use Rattle.std.specs.Cmp.Lexicographic.{slice_cmp}
use Rattle.nl_tree.specs.Records.{record_named}
use Rattle.nl_tree.specs.Shown.{itself, shown_entries}
use Rattle.nl_tree.proofs.ByName.{take_shown}
use Rattle.nl_tree.proofs.KeptPlaces.{place_written}
use Rattle.nl_tree.proofs.listing.Listing.take.Goals as goal

pub returns-in-Some-clause-taken : goal.returns-in-Some-clause-taken
returns-in-Some-clause-taken c =
    ap (λ es. shown_entries (record_named (λ k. k.items)) itself es) (c.get_mut.follows.holds None).0
    ∙ take_shown (λ k. k.items) c.args.name.now c.args.self.now.map.entries c.get_mut.ensures.ordered

pub returns-in-Some-clause-places : goal.returns-in-Some-clause-places
returns-in-Some-clause-places c = λ other some.
    let kept =
    place_written (λ k. is_at (λ k. slice_cmp nat_cmp other k.items) k)
    (λ k. is_at (λ k. slice_cmp nat_cmp c.args.name.now k.items) k) None c.args.self.now.map.entries
    some in
    subst (λ es. IsSome (lookup (is_at (λ k. slice_cmp nat_cmp other k.items)) es))
    (sym (c.get_mut.follows.holds None).0) kept
