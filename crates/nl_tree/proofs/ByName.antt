-- A map by name as the list of its records.
use Rattle.std.proofs.Common.{◌≡◌, ℕ, Bool, true, false, List, [], ◌∷◌, Option, Some, None, IsSome, Less, Equal, Greater, Ordering, refl, sym, ap, ◌∙◌, true≢false, subst}
use Rattle.std.specs.List.{AllByRecursion}
use Rattle.std.specs.List.Sorted.{IsStrictlySortedBy}
use Rattle.std.specs.Option.{option_flatten}
use Rattle.std.specs.Ordering.{nat_cmp, is_eq}
use Rattle.std.specs.Cmp.Lexicographic.{slice_cmp, nat_list_cmp_total}
use Rattle.std.specs.FinMap.{slice_cmp-IsAntisymmetric, nat_cmp-IsAntisymmetric}
use Rattle.std.specs.Map.{lookup, keys_of, set_value}
use Rattle.std.proofs.lemmas.Map.Keys.{sorted_head, sorted_tail}
use Rattle.nl_types.specs.Plain.Paths.{Name, name_cmp, same_name}
use Rattle.nl_types.specs.declared.kind.Kind.{Kind}
use Rattle.nl_dirs.specs.declared.record.Record.{Record}
use Rattle.nl_dirs.specs.Records.{entry_of}
use Rattle.nl_tree.specs.Records.{record_named, with_record, without_record}
use Rattle.nl_tree.specs.Shown.{itself, shown_entries}

equal_from_test : (r : Ordering) → is_eq r ≡ true → r ≡ Equal
equal_from_test Less e = absurd (true≢false (sym e))
equal_from_test Equal e = refl
equal_from_test Greater e = absurd (true≢false (sym e))

same_bytes : (a b : Name) → name_cmp a b ≡ Equal → a ≡ b
same_bytes a b e = slice_cmp-IsAntisymmetric nat_cmp-IsAntisymmetric a b e

-- without a name that isn't there
without_absent : (name : Name) (records : List Record) → entry_of name records ≡ None
    → without_record name records ≡ records
without_absent name [] h = refl
without_absent name (x ∷ records) h = by_test (same_name name x.name) refl (without_absent name records)
  where
    by_test : (b : Bool) → same_name name x.name ≡ b
        → (entry_of name records ≡ None → without_record name records ≡ records)
        → without_record name (x ∷ records) ≡ x ∷ records
    by_test true is rest = let clash : Some (x.inode, x.kind) ≡ None = rw is at h in cc
    by_test false is rest =
        let none : entry_of name records ≡ None = rw is at h in
        rw is (ap (λ (xs : List Record). x ∷ xs) (rest none))

-- all names of keys come behind this one
abbrev AreBehind : {K : Type 0} → (K → Name) → Name → List K → Type 0
AreBehind bytes name ks = AllByRecursion (λ k. name_cmp name (bytes k) ≡ Less) ks

behind_more : {K : Type 0} (bytes : K → Name) (a b : Name) (ks : List K) → name_cmp a b ≡ Less
    → AreBehind bytes b ks → AreBehind bytes a ks
behind_more bytes a b [] less h = tt
behind_more bytes a b (k ∷ ks) less h =
    (nat_list_cmp_total.trans a b (bytes k) less h.0, behind_more bytes a b ks less h.1)

module _ {K : Type 0} (bytes : K → Name) where
  abbrev records : List (K × Option (ℕ × Kind)) → List Record
  records es = shown_entries (record_named bytes) itself es

  abbrev IsSorted : List (K × Option (ℕ × Kind)) → Type 0
  IsSorted es = IsStrictlySortedBy (λ a b. slice_cmp nat_cmp (bytes a) (bytes b)) (keys_of es)

  abbrev found : Name → List (K × Option (ℕ × Kind)) → Option (Option (ℕ × Kind))
  found name es = lookup (λ k. is_eq (slice_cmp nat_cmp name (bytes k))) es

  -- a name before all keys isn't there
  none_behind : (name : Name) (es : List (K × Option (ℕ × Kind))) → AreBehind bytes name (keys_of es)
      → found name es ≡ None
  none_behind name [] h = refl
  none_behind name (e ∷ es) h = rw (h.0) (none_behind name es h.1)

  absent_behind : (name : Name) (es : List (K × Option (ℕ × Kind))) → AreBehind bytes name (keys_of es)
      → entry_of name (records es) ≡ None
  absent_behind name [] h = refl
  absent_behind name (e ∷ es) h = by_entry e.1 refl (absent_behind name es h.1)
    where
      by_entry : (o : Option (ℕ × Kind)) → e.1 ≡ o → entry_of name (records es) ≡ None
          → entry_of name (records (e ∷ es)) ≡ None
      by_entry None is rest = rw is rest
      by_entry (Some x) is rest = rw (is, h.0) rest

  put_behind : (r : Record) (es : List (K × Option (ℕ × Kind))) → AreBehind bytes r.name (keys_of es)
      → with_record r (records es) ≡ r ∷ records es
  put_behind r [] h = refl
  put_behind r (e ∷ es) h = by_entry e.1 refl (put_behind r es h.1)
    where
      by_entry : (o : Option (ℕ × Kind)) → e.1 ≡ o → with_record r (records es) ≡ r ∷ records es
          → with_record r (records (e ∷ es)) ≡ r ∷ records (e ∷ es)
      by_entry None is rest = rw is rest
      by_entry (Some x) is rest = rw (is, h.0) refl

  behind_equal : (name : Name) (e : K × Option (ℕ × Kind)) (es : List (K × Option (ℕ × Kind)))
      → IsSorted (e ∷ es) → name ≡ bytes e.0 → AreBehind bytes name (keys_of es)
  behind_equal name e es sorted same =
      subst (λ (n : Name). AreBehind bytes n (keys_of es)) (sym same) (sorted_head _ _ _ sorted)

  pub by_name : (name : Name) (es : List (K × Option (ℕ × Kind))) → IsSorted es
      → option_flatten (found name es) ≡ entry_of name (records es)
  by_name name [] sorted = refl
  by_name name (e ∷ es) sorted =
      by_test (is_eq (slice_cmp nat_cmp name (bytes e.0))) refl e.1 refl
      (by_name name es (sorted_tail _ _ _ sorted))
    where
      by_test : (b : Bool) → is_eq (slice_cmp nat_cmp name (bytes e.0)) ≡ b → (o : Option (ℕ × Kind))
          → e.1 ≡ o → option_flatten (found name es) ≡ entry_of name (records es)
          → option_flatten (found name (e ∷ es)) ≡ entry_of name (records (e ∷ es))
      by_test true is None shows rest =
          rw (is, shows) (sym (absent_behind name es
          (behind_equal name e es sorted (same_bytes name (bytes e.0) (equal_from_test _ is)))))
      by_test true is (Some x) shows rest = rw (shows, is) refl
      by_test false is None shows rest = rw (is, shows) rest
      by_test false is (Some x) shows rest = rw (shows, is) rest

  pub put_shown : (name : Name) (entry : ℕ × Kind) (es : List (K × Option (ℕ × Kind))) → IsSorted es
      → IsSome (found name es) →
      records (set_value (λ k. is_eq (slice_cmp nat_cmp name (bytes k))) es (Some entry))
      ≡ with_record (record { name = name; inode = entry.0; kind = entry.1 }) (records es)
  put_shown name entry [] sorted some = absurd (true≢false (sym some))
  put_shown name entry (e ∷ es) sorted some =
      by_order (slice_cmp nat_cmp name (bytes e.0)) refl e.1 refl
      (put_shown name entry es (sorted_tail _ _ _ sorted))
    where
      by_order : (o : Ordering) → slice_cmp nat_cmp name (bytes e.0) ≡ o → (x : Option (ℕ × Kind)) → e.1 ≡ x →
          (IsSome (found name es)
          → records (set_value (λ k. is_eq (slice_cmp nat_cmp name (bytes k))) es (Some entry))
          ≡ with_record (record { name = name; inode = entry.0; kind = entry.1 }) (records es))
          →
          records (set_value (λ k. is_eq (slice_cmp nat_cmp name (bytes k))) (e ∷ es) (Some entry))
          ≡ with_record (record { name = name; inode = entry.0; kind = entry.1 }) (records (e ∷ es))
      by_order Less is x shows rest =
          let there : IsSome (found name es) = rw is at some in
          absurd (true≢false
          (sym (subst (λ (o : Option (Option (ℕ × Kind))). IsSome o)
          (none_behind name es
          (behind_more bytes name (bytes e.0) (keys_of es) is (sorted_head _ _ _ sorted)))
          there)))
      by_order Equal is None shows rest =
          let same : name ≡ bytes e.0 = same_bytes name (bytes e.0) is in
          rw (is, shows)
          (ap (λ (n : Name). record { name = n; inode = entry.0; kind = entry.1 } ∷ records es) (sym same)
          ∙ sym (put_behind (record { name = name; inode = entry.0; kind = entry.1 }) es
          (behind_equal name e es sorted same)))
      by_order Equal is (Some x) shows rest =
          let same : name ≡ bytes e.0 = same_bytes name (bytes e.0) is in
          rw (shows, is)
          (ap (λ (n : Name). record { name = n; inode = entry.0; kind = entry.1 } ∷ records es) (sym same))
      by_order Greater is None shows rest =
          let there : IsSome (found name es) = rw is at some in rw (is, shows) (rest there)
      by_order Greater is (Some x) shows rest =
          let there : IsSome (found name es) = rw is at some in
          rw (is, shows) (rw is (ap (λ (xs : List Record). record_named bytes e.0 x ∷ xs) (rest there)))

  pub take_shown : (name : Name) (es : List (K × Option (ℕ × Kind))) → IsSorted es →
      records (set_value (λ k. is_eq (slice_cmp nat_cmp name (bytes k))) es None)
      ≡ without_record name (records es)
  take_shown name [] sorted = refl
  take_shown name (e ∷ es) sorted =
      by_test (is_eq (slice_cmp nat_cmp name (bytes e.0))) refl e.1 refl
      (take_shown name es (sorted_tail _ _ _ sorted))
    where
      by_test : (b : Bool) → is_eq (slice_cmp nat_cmp name (bytes e.0)) ≡ b → (x : Option (ℕ × Kind))
          → e.1 ≡ x →
          records (set_value (λ k. is_eq (slice_cmp nat_cmp name (bytes k))) es None)
          ≡ without_record name (records es)
          →
          records (set_value (λ k. is_eq (slice_cmp nat_cmp name (bytes k))) (e ∷ es) None)
          ≡ without_record name (records (e ∷ es))
      by_test true is None shows rest =
          rw (is, shows) (sym (without_absent name (records es)
          (absent_behind name es
          (behind_equal name e es sorted (same_bytes name (bytes e.0) (equal_from_test _ is))))))
      by_test true is (Some x) shows rest = rw (shows, is) refl
      by_test false is None shows rest = rw (is, shows) rest
      by_test false is (Some x) shows rest =
          rw (shows, is) (ap (λ (xs : List Record). record_named bytes e.0 x ∷ xs) rest)
