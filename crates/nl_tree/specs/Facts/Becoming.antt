-- What the order of the overlay and what inodes hold say of the list of what became of inodes.
use Rattle.std.proofs.Common.{◌≡◌, ◌⊎◌, ℕ, ◌+◌, ◌<◌, ◌≤◌, ◌^◌, Bool, true, false, List, [], ◌∷◌, length, Option, Some, None, Less, refl, ap, sym, subst, ◌∙◌, inl, inr, arith}
use Rattle.std.specs.Prelude.{IsTrue, ◌&&◌, cond, nat_le, nat_lt}
use Rattle.std.specs.List.{AllByRecursion}
use Rattle.std.specs.List.Sorted.{IsStrictlySortedBy}
use Rattle.std.specs.Option.{is_some, option_and_then, option_or}
use Rattle.std.specs.Ordering.{nat_cmp}
use Rattle.std.specs.Cmp.{ranked}
use Rattle.std.specs.FinMap.{find}
use Rattle.std.specs.Map.{keys_of}
use Rattle.std.specs.BTreeMap as map
use Rattle.std.proofs.lemmas.Bool.{cases_eq, cases_lt, leb-true, ltb-true}
use Rattle.std.proofs.lemmas.Map.Keys.{sorted_head, sorted_tail}
use Rattle.nl_types.specs.Plain.Limits.{name_limit}
use Rattle.nl_types.specs.Plain.Paths.{is_name}
use Rattle.nl_dirs.specs.declared.record.Record.{Record}
use Rattle.nl_dirs.specs.Records.{RecordHasSpelling}
use Rattle.nl_tree.specs.declared.overlay.Changed.{Changed}
use Rattle.nl_tree.specs.declared.overlay.Changed.TheVariants.{Gone, File, Dir}
use Rattle.nl_tree.specs.declared.overlay.Slot.{Slot}
use Rattle.nl_tree.specs.declared.overlay.Overlay.{Overlay}
use Rattle.nl_tree.specs.Became.{Became, EachMayBecome, MayBecome, Rises, blocks_over, holding_over, over_if_became, over_became}
use Rattle.nl_tree.specs.Held.{Held, Holding, IsHolding, IsInodeNumber, Listed, Stored, held_block}
use Rattle.nl_tree.specs.Overlays.{HasOrderedPages, IsOrderly, became_in, became_of, new_pages, slot_shows}
use Rattle.nl_tree.specs.Records.{records_of}
use Rattle.nl_tree.specs.Shown.{itself, pair, shown_entries}
use Rattle.nl_tree.specs.Facts.AsList.{shown_at}
use Rattle.nl_tree.specs.Facts.Rising.{find-below, find-here, find-there}

-- ---- keys rise

above_first : (n : ℕ) (ks : List ℕ) → AllByRecursion (λ k. nat_cmp n k ≡ Less) ks
    → AllByRecursion (λ k. n + 1 ≤ k) ks
above_first n [] h = tt
above_first n (k ∷ ks) h =
    (let above : n < k = ranked n k Less (sym h.0) in omega (arith, above), above_first n ks h.1)

above_zero : (ks : List ℕ) → AllByRecursion (λ k. 0 ≤ k) ks
above_zero [] = tt
above_zero (k ∷ ks) = (omega arith, above_zero ks)

-- the entries of a map that show something rise, and stay below what is above each of their keys
entries_rise : {V X : Type 0} (show : V → Option X) (low high : ℕ) (es : List (ℕ × V))
    → IsStrictlySortedBy nat_cmp (keys_of es) → AllByRecursion (λ k. low ≤ k) (keys_of es) →
    ((k : ℕ) (x : X) → find nat_cmp k (shown_entries pair show es) ≡ Some x → k < high)
    → Rises (λ (e : ℕ × X). e.0) low high (shown_entries pair show es)
entries_rise show low high [] sorted from below = tt
entries_rise {V} {X} show low high (e ∷ es) sorted from below =
    by_entry (show e.1) refl (entries_rise show low high es (sorted_tail _ _ _ sorted) from.1)
    (entries_rise show (e.0 + 1) high es (sorted_tail _ _ _ sorted)
    (above_first e.0 (keys_of es) (sorted_head _ _ _ sorted)))
  where
    by_entry : (o : Option X) → show e.1 ≡ o
        → (((k : ℕ) (x : X) → find nat_cmp k (shown_entries pair show es) ≡ Some x → k < high)
        → Rises (λ (e : ℕ × X). e.0) low high (shown_entries pair show es))
        →
        (((k : ℕ) (x : X) → find nat_cmp k (shown_entries pair show es) ≡ Some x → k < high)
        → Rises (λ (e : ℕ × X). e.0) (e.0 + 1) high (shown_entries pair show es))
        → Rises (λ (e : ℕ × X). e.0) low high (shown_entries pair show (e ∷ es))
    by_entry None is rest behind = rw is (rest (λ k x f. below k x (rw is f)))
    by_entry (Some y) is rest behind = rw is (from.0, first, behind (λ k x f. by_key k x f (cases_eq k e.0)))
      where
        first : e.0 < high
        first = below e.0 y (rw is (find-here e.0 (e.0, y) (shown_entries pair show es) refl))

        by_key : (k : ℕ) (x : X) → find nat_cmp k (shown_entries pair show es) ≡ Some x
            → (k ≡ e.0) ⊎ (k ≡ e.0 → ⊥) → k < high
        by_key k x f (inl same) = omega (arith, same, first)
        by_key k x f (inr other) =
            below k x (rw is (find-there k (e.0, y) (shown_entries pair show es) other ∙ f))

-- ---- one inode

-- what each key of a rising list stands for is what the list has there
each_found : (low high : ℕ) (es : List (ℕ × Became)) → Rises (λ (e : ℕ × Became). e.0) low high es
    → ((i : ℕ) (x : Became) → find nat_cmp i es ≡ Some x → IsInodeNumber i × MayBecome x) → EachMayBecome es
each_found low high [] rises may = tt
each_found low high (e ∷ es) rises may =
    let here = may e.0 e.1 (find-here e.0 e es refl) in (
      here.0,
      here.1,
      each_found (e.0 + 1) high es rises.2 (λ i x f. may i x (find-there i e es (other i x f) ∙ f)),
    )
  where
    other : (i : ℕ) (x : Became) → find nat_cmp i es ≡ Some x → i ≡ e.0 → ⊥
    other i x f same =
        let none : find nat_cmp i es ≡ None = find-below i (e.0 + 1) high es (omega (arith, same)) rises.2 in
        let no : None ≡ Some x = sym none ∙ f in cc

-- a place that shows something has a slot of it
shown_slot : (place : Option Slot) (x : Became) → option_and_then slot_shows place ≡ Some x
    → (slot : Slot) × (place ≡ Some slot) × (x ≡ became_of slot.what)
shown_slot None x e = let no : ◌≡◌ {A = Option Became} None (Some x) = e in cc
shown_slot (Some slot) x e = (slot, refl, by_live slot.live refl)
  where
    by_live : (b : Bool) → slot.live ≡ b → x ≡ became_of slot.what
    by_live false is = let no : ◌≡◌ {A = Option Became} None (Some x) = rw is at e in cc
    by_live true is = let same : Some (became_of slot.what) ≡ Some x = rw is at e in cc

-- of the tests that a name meets, the first two
first_two : (a b c d e f : Bool) → (a && b && c && d && e && f) ≡ true → (a ≡ true) × (b ≡ true)
first_two true true c d e f h = (refl, refl)
first_two true false c d e f h = cc
first_two false b c d e f h = cc

record_fits : (r : Record) → IsTrue (is_name r.name) × IsInodeNumber r.inode → RecordHasSpelling r
record_fits r may =
    let long : (nat_lt 0 (length r.name) ≡ true) × (nat_le (length r.name) name_limit ≡ true) =
    first_two _ _ _ _ _ _ may.0 in
    record {
      some = ltb-true 0 (length r.name) long.0;
      most = leb-true (length r.name) name_limit long.1;
      inode = below may.1;
    }
  where
    below : IsInodeNumber r.inode → r.inode < 2 ^ 32
    below (inl is) = omega (arith, is)
    below (inr is) = omega (arith, is)

module _ (held : Holding) (sound : IsHolding held) (i : ℕ) where
  -- what a live inode became may be, where the tree's inode holds it
  may_be : (what : Changed) (base : Option Held) → held i ≡ over_became (became_of what) base
      → HasOrderedPages what → MayBecome (became_of what)
  may_be Gone base is ordered = tt
  may_be (Dir listing) base is ordered =
      let may = sound.each i (Listed (records_of listing)) is in
      (λ k d l. record_fits _ (may.names k d l), may.ascending, may.count)
  may_be (File file) base is ordered =
      entries_rise itself 0 65536 file.pages.entries (ordered file refl)
      (above_zero (keys_of file.pages.entries)) (λ k page f. by_place k page f (cases_lt k 65536))
    where
      by_place : (k : ℕ) (page : List ℕ) → find nat_cmp k (new_pages file) ≡ Some page
          → (k < 65536) ⊎ (65536 ≤ k) → k < 65536
      by_place k page f (inl l) = l
      by_place k page f (inr l) =
          let may =
          sound.each i (Stored file.size (blocks_over file.cut (new_pages file) (held_block base))) is in
          let none : blocks_over file.cut (new_pages file) (held_block base) k ≡ None =
          may.none_past k (omega (arith, may.small, l)) in
          let no : Some page ≡ None =
          sym (ap
          (λ (p : Option (List ℕ)). option_or p (cond (nat_lt k file.cut) (held_block base k) None)) f)
          ∙ none in
          cc

-- ---- all of them

module _ (o : Overlay) (base held : Holding) (orderly : IsOrderly o) (sound : IsHolding held)
    (holds : held ≡ holding_over (became_in o) base) where
  slot_at : (i : ℕ) (x : Became) → find nat_cmp i (became_in o) ≡ Some x
      → (slot : Slot) × (map.get nat_cmp o.changed i ≡ Some slot) × (x ≡ became_of slot.what)
  slot_at i x f =
      shown_slot (map.get nat_cmp o.changed i) x
      (sym (shown_at slot_shows o.changed.entries orderly.keys i) ∙ f)

  number_at : (i : ℕ) (x : Became) → find nat_cmp i (became_in o) ≡ Some x → IsInodeNumber i
  number_at i x f = orderly.inodes i (ap is_some (slot_at i x f).1)

  pub became-rises : Rises (λ (e : ℕ × Became). e.0) 0 524288 (became_in o)
  became-rises =
      entries_rise slot_shows 0 524288 o.changed.entries orderly.keys (above_zero (keys_of o.changed.entries))
      (λ k x f. below k (number_at k x f))
    where
      below : (k : ℕ) → IsInodeNumber k → k < 524288
      below k (inl is) = omega (arith, is)
      below k (inr is) = omega (arith, is)

  pub became-may : EachMayBecome (became_in o)
  became-may =
      each_found 0 524288 (became_in o) became-rises (λ i x f. (number_at i x f, may i x f (slot_at i x f)))
    where
      may : (i : ℕ) (x : Became) → find nat_cmp i (became_in o) ≡ Some x
          → (slot : Slot) × (map.get nat_cmp o.changed i ≡ Some slot) × (x ≡ became_of slot.what)
          → MayBecome x
      may i x f at =
          let here : held i ≡ over_became (became_of at.0.what) (base i) =
          ap (λ (h : Holding). h i) holds ∙ ap (λ (c : Option Became). over_if_became c (base i)) f
          ∙ ap (λ (c : Became). over_became c (base i)) at.2 in
          subst MayBecome (sym at.2)
          (may_be held sound i at.0.what (base i) here (λ file is. orderly.files i at.0 file at.1 is))
