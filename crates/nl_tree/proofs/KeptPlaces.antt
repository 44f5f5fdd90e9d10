-- Entries that are there stay, where others are put in or written.
use Rattle.std.proofs.Common.{◌≡◌, Bool, true, false, List, [], ◌∷◌, Less, Equal, Greater, Ordering, IsSome, refl, sym, true≢false}
use Rattle.std.specs.Map.{lookup, set_value}
use Rattle.std.specs.BTreeMap.{insert_entry}

module _ {K V : Type 0} (test : K → Bool) where
  pub place_inserted : (cmp : K → K → Ordering) (k : K) (v : V) (es : List (K × V)) → IsSome (lookup test es)
      →
      IsSome (lookup test (insert_entry cmp es k v))
  place_inserted cmp k v [] some = absurd (true≢false (sym some))
  place_inserted cmp k v (e ∷ es) some =
      by_order (cmp k e.0) refl (test e.0) refl (test k) refl (place_inserted cmp k v es)
    where
      by_order : (o : Ordering) → cmp k e.0 ≡ o → (b : Bool) → test e.0 ≡ b → (t : Bool) → test k ≡ t →
          (IsSome (lookup test es) → IsSome (lookup test (insert_entry cmp es k v)))
          → IsSome (lookup test (insert_entry cmp (e ∷ es) k v))
      by_order Less is b here true hit rest = rw (is, hit) refl
      by_order Less is b here false hit rest = rw (is, hit) some
      by_order Equal is true here t hit rest = rw (is, here) refl
      by_order Equal is false here t hit rest =
          let there : IsSome (lookup test es) = rw here at some in rw (is, here) there
      by_order Greater is true here t hit rest = rw (is, here) refl
      by_order Greater is false here t hit rest =
          let there : IsSome (lookup test es) = rw here at some in rw (is, here) (rest there)

  pub place_written : (other : K → Bool) (w : V) (es : List (K × V)) → IsSome (lookup test es)
      → IsSome (lookup test (set_value other es w))
  place_written other w [] some = some
  place_written other w (e ∷ es) some = by_test (other e.0) refl (test e.0) refl (place_written other w es)
    where
      by_test : (b : Bool) → other e.0 ≡ b → (t : Bool) → test e.0 ≡ t
          → (IsSome (lookup test es) → IsSome (lookup test (set_value other es w))) →
          IsSome (lookup test (set_value other (e ∷ es) w))
      by_test true is true hit rest = rw (is, hit) refl
      by_test false is true hit rest = rw (is, hit) refl
      by_test true is false hit rest =
          let there : IsSome (lookup test es) = rw hit at some in rw (is, hit) there
      by_test false is false hit rest =
          let there : IsSome (lookup test es) = rw hit at some in rw (is, hit) (rest there)
