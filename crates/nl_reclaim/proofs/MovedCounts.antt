-- Counts behind a move.
use Rattle.std.proofs.Common.{◌≡◌, ℕ, suc, true, false, cond, eqb, List, [], ◌∷◌, Option, Some, None, inl, inr, sym, refl, ap, ◌∙◌, arith}
use Rattle.std.specs.Prelude.{◌||◌, All}
use Rattle.std.specs.Option.{option_map}
use Rattle.std.proofs.lemmas.Bool.{cases_Bool, eqb-true, or_left}
use Rattle.nl_types.specs.Plain.NumberLists.{is_one_of}
use Rattle.nl_types.specs.Blocks.PartialMaps.{Partial, adjust, adjust_each}
use Rattle.nl_types.specs.Blocks.Entries.{Entry, is_needed}
use Rattle.nl_types.specs.Blocks.Segments.{Segments}
use Rattle.nl_vstore.specs.Counts.{NeededAreStanding, needed_places}
use Rattle.nl_vstore.specs.Located.{entry_needed, needs}
use Rattle.nl_sufile.specs.BySegment.{lies_in}
use Rattle.nl_vstore.specs.Stores.{IsStore, Store, address_in, content_in, is_inside, moved_to}
use Rattle.nl_reclaim.specs.PrivateCounts.Adding.{LeaveSegment, mixed}
use Rattle.nl_reclaim.specs.Counted.{Counted, IsCounted}
use Rattle.nl_reclaim.specs.Events.{HasMovedNeeded}
use Rattle.nl_reclaim.specs.PrivateCounts.Places.{AreCountsIn}
use Rattle.nl_reclaim.proofs.JoinedCounts.{counted-are-needed, has-block, needed-are-counted, same-places}
use Rattle.nl_reclaim.proofs.StoreChanges.{SameSizes, counts-between, ends-between, sizes-with-logs}

-- what is true of all of them is true of each
pub of-each : (P : ℕ → Type 0) (numbers : List ℕ) → All P numbers → (v : ℕ) → is_one_of numbers v ≡ true → P v
of-each P [] all v among = cc
of-each P (k ∷ numbers) all v among = elim (cases_Bool (eqb v k)) [
  | inl here ↦ let same = eqb-true v k here in rw same (all 0 0 (omega arith))
  | inr other ↦
      of-each P numbers (λ i d low. all (suc i) d (omega arith)) v
      (sym (ap (λ t. t || is_one_of numbers v) other) ∙ among)
]

-- what isn't moved stays
adjust_each-others : (numbers at : List ℕ) (m : Partial ℕ) (v : ℕ) → is_one_of numbers v ≡ false
    → adjust_each moved_to numbers at m v ≡ m v
adjust_each-others [] at m v none = refl
adjust_each-others (k ∷ numbers) [] m v none = refl
adjust_each-others (k ∷ numbers) (a ∷ at) m v none = elim (cases_Bool (eqb v k)) [
  | inl here ↦
      absurd (let wrong : false ≡ true = sym none ∙ or_left (eqb v k) (is_one_of numbers v) here in cc)
  | inr other ↦
      adjust_each-others numbers at (adjust (moved_to a) m k) v
      (sym (ap (λ t. t || is_one_of numbers v) other) ∙ none)
      ∙ ap (λ t. cond {A = Option ℕ} t (option_map (moved_to a) (m v)) (m v)) other
]

-- a block lies in a segment by how many blocks a segment has
inside-alike : (s t : Segments) (segment : ℕ) (o : Option ℕ) → t.blocks ≡ s.blocks
    → is_inside t segment o ≡ is_inside s segment o
inside-alike s t segment o same = ap (λ (n : ℕ). lies_in n segment o) same

module _ (standing : NeededAreStanding) (segment : ℕ) (numbers kept : List ℕ) (old new : Store)
    (has : HasMovedNeeded segment numbers kept old new) (store : IsStore new) where
  sizes : SameSizes old.segments new.segments
  sizes =
      sizes-with-logs old.segments new.segments has.moved.appended.logs has.stamp has.moved.appended.segments

  abbrev old_places : Partial ℕ
  old_places = needed_places old (is_needed kept)

  abbrev new_places : Partial ℕ
  new_places = needed_places new (is_needed kept)

  content-same : (v : ℕ) → content_in new v ≡ content_in old v
  content-same v = ap (λ f. f v) has.moved.content

  needs-now : (v : ℕ) → is_one_of numbers v ≡ true → needs (is_needed kept) (content_in old) v ≡ true
  needs-now = of-each (λ v. needs (is_needed kept) (content_in old) v ≡ true) numbers has.needed.needed

  was-inside : (v : ℕ) → is_one_of numbers v ≡ true → is_inside old.segments segment (address_in old v) ≡ true
  was-inside =
      of-each (λ v. is_inside old.segments segment (address_in old v) ≡ true) numbers has.needed.inside

  has-block-now : (v : ℕ) → is_one_of numbers v ≡ true → (b : ℕ) × (address_in new v ≡ Some b)
  has-block-now v among = by (content_in old v) refl (needs-now v among)
    where
      by : (o : Option Entry) → content_in old v ≡ o → entry_needed (is_needed kept) (content_in old v) ≡ true
          → (b : ℕ) × (address_in new v ≡ Some b)
      by None at needed =
          absurd (let wrong : false ≡ true = sym (ap (entry_needed (is_needed kept)) at) ∙ needed in cc)
      by (Some e) at needed = has-block new v e (content-same v ∙ at)

  place-needed : (s : Store) (v : ℕ) → needs (is_needed kept) (content_in s) v ≡ true
      → needed_places s (is_needed kept) v ≡ address_in s v
  place-needed s v needed = ap (λ t. cond {A = Option ℕ} t (address_in s v) None) needed

  pub moves-leave-segment : LeaveSegment new segment numbers old_places
  moves-leave-segment = record {
    have = record { once = has.needed.once; now = has-block-now };
    there = omega (arith, has.there, sizes.segments);
    before = λ v among.
        inside-alike old.segments new.segments segment (old_places v) sizes.blocks
        ∙ ap (is_inside old.segments segment) (place-needed old v (needs-now v among)) ∙ was-inside v among;
  }

  pub counted-before : (c : Counted) → IsCounted old kept c → AreCountsIn new old_places c.counts
  counted-before c counted = counts-between old new sizes old_places c.counts
      (rw counted.counts (needed-are-counted standing old (is_needed kept) has.sound))

  stays-there : (v : ℕ) → is_one_of numbers v ≡ false → address_in new v ≡ address_in old v
  stays-there v none =
      ap (λ f. f v) has.moved.address ∙ adjust_each-others numbers has.moved.at (address_in old) v none

  all-places : (v : ℕ) → mixed numbers (address_in new) old_places v ≡ new_places v
  all-places v = elim (cases_Bool (is_one_of numbers v)) [
    | inl among ↦
        ap (λ t. cond {A = Option ℕ} t (address_in new v) (old_places v)) among
        ∙ sym (place-needed new v (ap (entry_needed (is_needed kept)) (content-same v) ∙ needs-now v among))
    | inr none ↦
        ap (λ t. cond {A = Option ℕ} t (address_in new v) (old_places v)) none
        ∙ ap (λ (o : Option Entry).
        cond {A = Option ℕ} (entry_needed (is_needed kept) o) (address_in old v) None)
        (sym (content-same v))
        ∙ ap (λ o. cond {A = Option ℕ} (needs (is_needed kept) (content_in new) v) o None)
        (sym (stays-there v none))
  ]

  pub moved-is-counted : (c : Counted) → IsCounted old kept c → (counts : List ℕ)
      → AreCountsIn new (mixed numbers (address_in new) old_places) counts
      → IsCounted new kept (record c { counts = counts })
  moved-is-counted c counted counts are = record {
    counts = counted-are-needed standing new (is_needed kept) store counts
        (same-places new (mixed numbers (address_in new) old_places) new_places counts all-places are);
    ends = ends-between (content_in old) (content_in new) (is_needed kept) c.ends content-same counted.ends;
    below = counted.below;
  }
