-- Entries that show nothing keep a place.
use Rattle.std.proofs.Common.{◌≡◌, List, [], ◌∷◌, Option, Some, None, Less, Equal, Greater, Ordering, refl, ap}
use Rattle.std.specs.List.{cons_option}
use Rattle.std.specs.Option.{option_map}
use Rattle.std.specs.Map.{lookup}
use Rattle.std.specs.BTreeMap.{insert_entry, is_at}
use Rattle.nl_tree.specs.Shown.{shown_entries}

module _ {K V X R : Type 0} (cmp : K → K → Ordering) (made : K → X → R) (show : V → Option X) where
  -- a place that shows nothing goes where nothing is shown_entries
  pub hidden : (k : K) (v : V) (es : List (K × V)) → show v ≡ None
      → ((old : V) → lookup (is_at (cmp k)) es ≡ Some old → show old ≡ None) →
      shown_entries made show (insert_entry cmp es k v) ≡ shown_entries made show es
  hidden k v [] none was = rw none refl
  hidden k v (e ∷ es) none was = by_cases (cmp k e.0) refl (hidden k v es none)
    where
      by_cases : (r : Ordering) → cmp k e.0 ≡ r
          → (((old : V) → lookup (is_at (cmp k)) es ≡ Some old → show old ≡ None)
          → shown_entries made show (insert_entry cmp es k v) ≡ shown_entries made show es)
          →
          shown_entries made show (insert_entry cmp (e ∷ es) k v) ≡ shown_entries made show (e ∷ es)
      by_cases Less is rest = rw (is, none) refl
      by_cases Equal is rest = let gone : show e.1 ≡ None = was e.1 (rw is refl) in rw (is, none, gone) refl
      by_cases Greater is rest =
          rw is (ap (λ (xs : List R). cons_option (option_map (λ (x : X). made e.0 x) (show e.1)) xs)
          (rest (λ old h. was old (rw is h))))
