-- The lowest number that is to be given first.
use Rattle.std.proofs.Common.{◌≡◌, ◌==◌, ℕ, ◌<◌, ◌≤◌, true≢false, arith, Bool, true, false, List, [], ◌∷◌, Option, Some, None, Less, refl, sym, ap, ◌∙◌}
use Rattle.std.specs.Prelude.{◌||◌}
use Rattle.std.specs.List.{AllByRecursion}
use Rattle.std.specs.List.Sorted.{IsStrictlySortedBy}
use Rattle.std.specs.Ordering.{nat_cmp}
use Rattle.std.specs.Cmp.{ranked}
use Rattle.std.specs.Map.{lookup, keys_of}
use Rattle.std.specs.BTreeMap.{is_at}
use Rattle.std.proofs.lemmas.Bool.{eqb-true, eq-eqb, ne_eqb}
use Rattle.std.proofs.lemmas.Map.Keys.{sorted_head, sorted_tail}
use Rattle.nl_types.specs.Plain.NumberLists.{is_one_of}
use Rattle.nl_tree.specs.Shown.{if_true, key_alone, shown_entries}
use Rattle.nl_tree.specs.Facts.Places.{tied}

abbrev freed : List (ℕ × Bool) → List ℕ
freed es = shown_entries key_alone if_true es

abbrev at : ℕ → List (ℕ × Bool) → Option Bool
at m es = lookup (is_at (nat_cmp m)) es

no_value : (x : Bool) → ◌≡◌ {A = Option Bool} None (Some x) → ⊥
no_value x e = cc

not_both : ◌≡◌ {A = Option Bool} (Some false) (Some true) → ⊥
not_both e = cc

no_first : (n : ℕ) (ns : List ℕ) → ◌≡◌ {A = List ℕ} [] (n ∷ ns) → ⊥
no_first n ns e = cc

here : (m k : ℕ) → is_at (nat_cmp m) k ≡ true → k ≡ m
here m k e = eqb-true k m (sym (tied m k) ∙ e)

behind : (n : ℕ) (es : List (ℕ × Bool)) → AllByRecursion (λ k. nat_cmp n k ≡ Less) (keys_of es)
    → (m : ℕ) (x : Bool) → at m es ≡ Some x → n < m
behind n [] h m x is = absurd (no_value x is)
behind n (e ∷ es) h m x is = by_test (is_at (nat_cmp m) e.0) refl (behind n es h.1 m x)
  where
    by_test : (b : Bool) → is_at (nat_cmp m) e.0 ≡ b → (at m es ≡ Some x → n < m) → n < m
    by_test true t rest =
        let above : n < e.0 = ranked n e.0 Less (sym h.0) in omega (arith, above, here m e.0 t)
    by_test false t rest = rest (rw t at is)

pub shows_first : (n : ℕ) (b : Bool) (es : List (ℕ × Bool)) → b ≡ true → freed ((n, b) ∷ es) ≡ n ∷ freed es
shows_first n b es is = rw is refl

pub first_shown : (es : List (ℕ × Bool)) (n : ℕ) (ns : List ℕ) → IsStrictlySortedBy nat_cmp (keys_of es)
    → freed es ≡ n ∷ ns → (at n es ≡ Some true) × ((m : ℕ) → at m es ≡ Some true → n ≤ m)
first_shown [] n ns sorted is = absurd (no_first n ns is)
first_shown (e ∷ es) n ns sorted is = by_value e.1 refl (first_shown es n ns (sorted_tail _ _ _ sorted))
  where
    head : List ℕ → ℕ
    head [] = n
    head (x ∷ xs) = x

    by_value : (b : Bool) → e.1 ≡ b
        → (freed es ≡ n ∷ ns → (at n es ≡ Some true) × ((m : ℕ) → at m es ≡ Some true → n ≤ m)) →
        (at n (e ∷ es) ≡ Some true) × ((m : ℕ) → at m (e ∷ es) ≡ Some true → n ≤ m)
    by_value true v rest =
        let same : e.0 ≡ n = ap head (rw v at is) in
        let hit : is_at (nat_cmp n) e.0 ≡ true = tied n e.0 ∙ eq-eqb e.0 n same in
        (rw (hit, v) refl, λ m found. least m found same (is_at (nat_cmp m) e.0) refl)
      where
        least : (m : ℕ) → at m (e ∷ es) ≡ Some true → e.0 ≡ n → (b : Bool) → is_at (nat_cmp m) e.0 ≡ b → n ≤ m
        least m found same true t = omega (arith, same, here m e.0 t)
        least m found same false t =
            let above : e.0 < m = behind e.0 es (sorted_head _ _ _ sorted) m true (rw t at found) in
            omega (arith, same, above)
    by_value false v rest =
        let found = rest (rw v at is) in
        let above : e.0 < n = behind e.0 es (sorted_head _ _ _ sorted) n true found.0 in
        let miss : is_at (nat_cmp n) e.0 ≡ false =
        tied n e.0 ∙ ne_eqb e.0 n (λ same. absurd (omega (arith, above, same))) in
        (rw miss found.0, λ m is'. least m is' found.1 (is_at (nat_cmp m) e.0) refl)
      where
        least : (m : ℕ) → at m (e ∷ es) ≡ Some true → ((m : ℕ) → at m es ≡ Some true → n ≤ m) → (b : Bool)
            → is_at (nat_cmp m) e.0 ≡ b → n ≤ m
        least m is' all true t = absurd (not_both (sym (ap (λ (b : Bool). Some b) v) ∙ rw t at is'))
        least m is' all false t = all m (rw t at is')

pub none_shown : (es : List (ℕ × Bool)) → freed es ≡ [] → (m : ℕ) → at m es ≡ Some true → ⊥
none_shown [] none m is = no_value true is
none_shown (e ∷ es) none m is = by_value e.1 refl (is_at (nat_cmp m) e.0) refl (none_shown es)
  where
    by_value : (b : Bool) → e.1 ≡ b → (t : Bool) → is_at (nat_cmp m) e.0 ≡ t
        → (freed es ≡ [] → (m : ℕ) → at m es ≡ Some true → ⊥) → ⊥
    by_value true v t hit rest = no_first e.0 (freed es) (sym (rw v at none))
    by_value false v true hit rest = not_both (sym (ap (λ (b : Bool). Some b) v) ∙ rw hit at is)
    by_value false v false hit rest = rest (rw v at none) m (rw hit at is)

-- ---- as a list of numbers

pub freed_listed : (es : List (ℕ × Bool)) (m : ℕ) → at m es ≡ Some true → is_one_of (freed es) m ≡ true
freed_listed [] m is = absurd (no_value true is)
freed_listed (e ∷ es) m is = by_value e.1 refl (is_at (nat_cmp m) e.0) refl (freed_listed es m)
  where
    by_value : (b : Bool) → e.1 ≡ b → (t : Bool) → is_at (nat_cmp m) e.0 ≡ t
        → (at m es ≡ Some true → is_one_of (freed es) m ≡ true) →
        is_one_of (freed (e ∷ es)) m ≡ true
    by_value true v true hit rest =
        let same : (m == e.0) ≡ true = eq-eqb m e.0 (sym (here m e.0 hit)) in rw (v, same) refl
    by_value false v true hit rest = absurd (not_both (sym (ap (λ (b : Bool). Some b) v) ∙ rw hit at is))
    by_value true v false hit rest = rw v (or_true (m == e.0) (rest (rw hit at is)))
      where
        or_true : (b : Bool) → is_one_of (freed es) m ≡ true → (b || is_one_of (freed es) m) ≡ true
        or_true true h = refl
        or_true false h = h
    by_value false v false hit rest = rw v (rest (rw hit at is))

pub listed_freed : (es : List (ℕ × Bool)) (m : ℕ) → IsStrictlySortedBy nat_cmp (keys_of es)
    → is_one_of (freed es) m ≡ true → at m es ≡ Some true
listed_freed [] m sorted is = absurd (true≢false (sym is))
listed_freed (e ∷ es) m sorted is =
    by_value e.1 refl (m == e.0) refl (listed_freed es m (sorted_tail _ _ _ sorted))
  where
    later : at m es ≡ Some true → at m (e ∷ es) ≡ Some true
    later found =
        let above : e.0 < m = behind e.0 es (sorted_head _ _ _ sorted) m true found in
        let miss : is_at (nat_cmp m) e.0 ≡ false =
        tied m e.0 ∙ ne_eqb e.0 m (λ same. absurd (omega (arith, above, same))) in
        rw miss found

    by_value : (b : Bool) → e.1 ≡ b → (t : Bool) → (m == e.0) ≡ t
        → (is_one_of (freed es) m ≡ true → at m es ≡ Some true) → at m (e ∷ es) ≡ Some true
    by_value true v true hit rest =
        let found : is_at (nat_cmp m) e.0 ≡ true = tied m e.0 ∙ eq-eqb e.0 m (sym (eqb-true m e.0 hit)) in
        rw (found, v) refl
    by_value true v false hit rest = later (rest (rw hit at (rw v at is)))
    by_value false v t hit rest = later (rest (rw v at is))
