-- What a write to one slot of an overlay keeps.
use Rattle.std.proofs.Common.{◌≡◌, ◌==◌, ◌⊎◌, inl, inr, ℕ, Bool, true, false, Option, None, Some, refl, sym, ap, subst, ◌∙◌, IsSome, List, ◌+◌, arith}
use Rattle.std.specs.Prelude.{cond, is_some}
use Rattle.std.specs.Ordering.{nat_cmp}
use Rattle.std.specs.BTreeMap as map
use Rattle.std.specs.BTreeMap.{BTreeMap, WritesThrough, insert_entry, is_at}
use Rattle.std.proofs.lemmas.Bool.{cases_eq, ne_eqb}
use Rattle.nl_tree.specs.declared.overlay.Changed.{Changed}
use Rattle.nl_tree.specs.declared.overlay.Changed.TheVariants.{File}
use Rattle.nl_tree.specs.declared.overlay.FileBlocks.{FileBlocks}
use Rattle.nl_tree.specs.declared.overlay.Overlay.{Overlay}
use Rattle.nl_tree.specs.declared.overlay.Slot.{Slot}
use Rattle.nl_tree.specs.Held.{Held, Holding, IsInodeNumber}
use Rattle.nl_tree.specs.Overlays.{HasOrderedPages, IsOrderly, is_shown, over_changed, over_if_slot}
use Rattle.nl_tree.specs.Facts.Places.{one_slot, slot_kept, slot_written, tied}
use Rattle.nl_tree.specs.Places.{Recounts, all_places, places_of}
use Rattle.nl_tree.specs.Weights.{IsNoLess, capped}
use Rattle.nl_tree.proofs.Weights.{inserted-few, others-stay}

module _ (m n : BTreeMap ℕ Slot) (j : ℕ) (slot w : Slot) (writes : WritesThrough nat_cmp (nat_cmp j) m w n)
    (there : Some slot ≡ map.get nat_cmp m j) where
  some : IsSome (map.get nat_cmp m j)
  some = subst (λ (o : Option Slot). IsSome o) there refl

  -- each place stays
  pub places_stay : (i : ℕ) → IsSome (map.get nat_cmp m i) → IsSome (map.get nat_cmp n i)
  places_stay i has = ap is_some ((writes.3 some).0 i) ∙ pick (is_at (nat_cmp j) i) (map.get nat_cmp m i) has
    where
      pick : (t : Bool) (o : Option Slot) → IsSome o → is_some (cond t (Some w) o) ≡ true
      pick true o has' = refl
      pick false o has' = has'

  -- and there is no other
  pub places_from : (i : ℕ) → IsSome (map.get nat_cmp n i) → IsSome (map.get nat_cmp m i)
  places_from i has = by_test (cases_eq i j)
    where
      by_test : (i ≡ j) ⊎ (i ≡ j → ⊥) → IsSome (map.get nat_cmp m i)
      by_test (inl e) = subst (λ (k : ℕ). IsSome (map.get nat_cmp m k)) (sym e) some
      by_test (inr ne) = subst (λ (o : Option Slot). IsSome o) (slot_kept m n j i w writes some ne) has

  -- an overlay stays orderly
  pub written_orderly : (o : Overlay) (weight was now : ℕ) → o.changed ≡ m
      → (HasOrderedPages slot.what → HasOrderedPages w.what)
      → Recounts o.weight weight was now → was ≡ capped (places_of slot.what) → now ≡ capped (places_of w.what)
      → IsOrderly o → IsOrderly (record o { changed = n; weight = weight })
  written_orderly o weight was now is keeps recounts was_is now_is orderly = record {
    keys = writes.4;
    freed_numbers = orderly.freed_numbers;
    files = λ i s file at file_is. by_test i s file at file_is (cases_eq i j);
    inodes = λ i has.
        orderly.inodes i (ap (λ changed. is_some (map.get nat_cmp changed i)) is ∙ places_from i has);
    counted =
        let stay = others-stay m.entries (λ k. is_at (nat_cmp j) k) slot w there in
        let before : IsNoLess (places_of slot.what + stay.rest) o.weight =
        subst (λ (places : ℕ). IsNoLess places o.weight)
        (ap (λ (changed : BTreeMap ℕ Slot). all_places changed.entries) is ∙ stay.before) orderly.counted in
        subst (λ (places : ℕ). IsNoLess places weight)
        (sym (ap (λ (es : List (ℕ × Slot)). all_places es) writes.0 ∙ stay.after))
        (recounts (places_of slot.what) (places_of w.what) stay.rest was_is now_is before);
  }
    where
      by_test : (i : ℕ) (s : Slot) (file : FileBlocks) → map.get nat_cmp n i ≡ Some s → s.what ≡ File file
          → (i ≡ j) ⊎ (i ≡ j → ⊥) →
          map.IsOrdered nat_cmp file.pages
      by_test i s file at file_is (inl e) =
          let same : w ≡ s =
          one_slot (map.get nat_cmp n j) w s (sym (slot_written m n j w writes some))
          (ap (map.get nat_cmp n) (sym e) ∙ at) in
          keeps
          (λ f f_is. orderly.files j slot f (ap (λ changed. map.get nat_cmp changed j) is ∙ sym there) f_is)
          file
          (ap (λ (x : Slot). x.what) same ∙ file_is)
      by_test i s file at file_is (inr ne) =
          orderly.files i s file
          (ap (λ changed. map.get nat_cmp changed i) is ∙ sym (slot_kept m n j i w writes some ne) ∙ at)
          file_is

-- what shows over any checkpoint stays where the written slot shows the same
pub written_still : (m n : BTreeMap ℕ Slot) (j : ℕ) (slot : Slot) (what : Changed)
    → WritesThrough nat_cmp (nat_cmp j) m (record { live = slot.live; what = what }) n →
    Some slot ≡ map.get nat_cmp m j
    → ((base : Option Held) → over_changed what base ≡ over_changed slot.what base) →
    (b : Holding) (i : ℕ)
    → over_if_slot (map.get nat_cmp n i) (b i) ≡ over_if_slot (map.get nat_cmp m i) (b i)
written_still m n j slot what writes there over b i = by_test (cases_eq i j)
  where
    written : Slot
    written = record { live = slot.live; what = what }

    some : IsSome (map.get nat_cmp m j)
    some = subst (λ (o : Option Slot). IsSome o) there refl

    by_test : (i ≡ j) ⊎ (i ≡ j → ⊥)
        → over_if_slot (map.get nat_cmp n i) (b i) ≡ over_if_slot (map.get nat_cmp m i) (b i)
    by_test (inl e) =
        ap (λ (p : Option Slot). over_if_slot p (b i))
        (ap (map.get nat_cmp n) e ∙ slot_written m n j written writes some)
        ∙ ap (λ (h : Option Held). cond slot.live h (b i)) (over (b i))
        ∙ ap (λ (p : Option Slot). over_if_slot p (b i)) (there ∙ ap (map.get nat_cmp m) (sym e))
    by_test (inr ne) =
        ap (λ (p : Option Slot). over_if_slot p (b i)) (slot_kept m n j i written writes some ne)

-- what shows where a slot is written, place by place
pub written_shown : (m n : BTreeMap ℕ Slot) (j : ℕ) (what : Changed)
    → WritesThrough nat_cmp (nat_cmp j) m (record { live = true; what = what }) n →
    IsSome (map.get nat_cmp m j) → (b : Holding) (i : ℕ)
    → over_if_slot (map.get nat_cmp n i) (b i)
    ≡ cond (i == j) (over_changed what (b i)) (over_if_slot (map.get nat_cmp m i) (b i))
written_shown m n j what writes there b i =
    ap (λ (p : Option Slot). over_if_slot p (b i))
    ((writes.3 there).0 i ∙ ap (λ (t : Bool). cond t (Some w) (map.get nat_cmp m i)) (tied j i))
    ∙ pick (i == j) (map.get nat_cmp m i) (b i)
  where
    w : Slot
    w = record { live = true; what = what }

    pick : (t : Bool) (p : Option Slot) (base : Option Held)
        → over_if_slot (cond t (Some w) p) base ≡ cond t (over_changed what base) (over_if_slot p base)
    pick true p base = refl
    pick false p base = refl

-- ---- a slot that is put in

-- a place that isn't shown leaves what the checkpoint holds
unshown : (p : Option Slot) (base : Option Held) → is_shown p ≡ false → over_if_slot p base ≡ base
unshown None base none = refl
unshown (Some slot) base none = ap (λ (t : Bool). cond t (over_changed slot.what base) base) none

module _ (m n : BTreeMap ℕ Slot) (j : ℕ) (w : Slot) (updates : map.Updates nat_cmp m n j (Some w)) where
  inserted_at : (i : ℕ) → map.get nat_cmp n i ≡ cond (i == j) (Some w) (map.get nat_cmp m i)
  inserted_at i =
      updates.0 i ∙ ap (λ (t : Bool). cond t (Some w) (map.get nat_cmp m i)) (tied j i)

  -- the other places stay
  pub inserted_others : (i : ℕ) → (i ≡ j → ⊥) → map.get nat_cmp n i ≡ map.get nat_cmp m i
  inserted_others i ne =
      inserted_at i ∙ ap (λ (t : Bool). cond t (Some w) (map.get nat_cmp m i)) (ne_eqb i j ne)

  inserted_there : (i : ℕ) → i ≡ j → map.get nat_cmp n i ≡ Some w
  inserted_there i e = ap (map.get nat_cmp n) e ∙ updates.1

  -- a hidden slot shows nothing, where nothing was shown
  pub inserted_still : w.live ≡ false → is_shown (map.get nat_cmp m j) ≡ false → (b : Holding) (i : ℕ)
      → over_if_slot (map.get nat_cmp n i) (b i) ≡ over_if_slot (map.get nat_cmp m i) (b i)
  inserted_still hidden none b i = by_test (cases_eq i j)
    where
      by_test : (i ≡ j) ⊎ (i ≡ j → ⊥)
          → over_if_slot (map.get nat_cmp n i) (b i) ≡ over_if_slot (map.get nat_cmp m i) (b i)
      by_test (inl e) =
          unshown (map.get nat_cmp n i) (b i)
          (ap (λ (p : Option Slot). is_shown p) (inserted_there i e) ∙ hidden)
          ∙ sym (unshown (map.get nat_cmp m i) (b i)
          (ap (λ (k : ℕ). is_shown (map.get nat_cmp m k)) e ∙ none))
      by_test (inr ne) = ap (λ (p : Option Slot). over_if_slot p (b i)) (inserted_others i ne)

  -- an overlay stays orderly
  pub inserted_orderly : (o : Overlay) (weight more : ℕ) → o.changed ≡ m
      → n.entries ≡ insert_entry nat_cmp m.entries j w → map.IsOrdered nat_cmp n → IsInodeNumber j
      → HasOrderedPages w.what → more ≡ capped (places_of w.what) → weight ≡ capped (o.weight + more)
      → IsOrderly o → IsOrderly (record o { changed = n; weight = weight })
  inserted_orderly o weight more is entries ordered number pages more_is sum orderly = record {
    keys = ordered;
    freed_numbers = orderly.freed_numbers;
    files = λ i s file at file_is. file_at i s file at file_is (cases_eq i j);
    inodes = λ i has. number_at i has (cases_eq i j);
    counted =
        let few = inserted-few nat_cmp j w m.entries in
        let before : IsNoLess (all_places m.entries) o.weight =
        subst (λ (changed : BTreeMap ℕ Slot). IsNoLess (all_places changed.entries) o.weight) is
        orderly.counted in
        subst (λ (es : List (ℕ × Slot)). IsNoLess (all_places es) weight) (sym entries)
        (omega (arith, few, before, more_is, sum));
  }
    where
      file_at : (i : ℕ) (s : Slot) (file : FileBlocks) → map.get nat_cmp n i ≡ Some s → s.what ≡ File file
          → (i ≡ j) ⊎ (i ≡ j → ⊥) → map.IsOrdered nat_cmp file.pages
      file_at i s file at file_is (inl e) =
          let same : w ≡ s = one_slot (map.get nat_cmp n i) w s (sym (inserted_there i e)) at in
          pages file (ap (λ (x : Slot). x.what) same ∙ file_is)
      file_at i s file at file_is (inr ne) =
          orderly.files i s file
          (ap (λ changed. map.get nat_cmp changed i) is ∙ sym (inserted_others i ne) ∙ at) file_is

      number_at : (i : ℕ) → IsSome (map.get nat_cmp n i) → (i ≡ j) ⊎ (i ≡ j → ⊥) → IsInodeNumber i
      number_at i has (inl e) = subst (λ (k : ℕ). IsInodeNumber k) (sym e) number
      number_at i has (inr ne) =
          orderly.inodes i
          (ap (λ changed. is_some (map.get nat_cmp changed i)) is
          ∙ ap (λ (p : Option Slot). is_some p) (sym (inserted_others i ne)) ∙ has)
