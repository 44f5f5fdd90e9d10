-- Counts and ends over a store.
use Rattle.std.proofs.Common.{◌≡◌, ℕ, zero, suc, ◌<◌, Bool, true, false, cond, List, length, get_or, Option, Some, None, refl, ap, sym, ◌∙◌, arith}
use Rattle.std.specs.Prelude.{◌||◌, is_none}
use Rattle.std.specs.Option.{option_map}
use Rattle.std.proofs.lemmas.Grind.{same_number_lists}
use Rattle.std.proofs.lemmas.List.FromFn.{get_or-map-range_with_len, length-map-range_with_len}
use Rattle.nl_types.specs.Blocks.PartialMaps.{Partial}
use Rattle.nl_types.specs.Blocks.Entries.{Entry}
use Rattle.nl_sufile.specs.BySegment as by_segment
use Rattle.nl_vstore.specs.Batches.{is_live}
use Rattle.nl_vstore.specs.Counts.{NeededAreStanding, needed_counts, needed_places}
use Rattle.nl_vstore.specs.Located.{entry_needed, needed_count, needs}
use Rattle.nl_vstore.specs.Stores.{IsStore, Numbered, Store, address_in, block_now, capacity, content_in, entry_now, numbered_in}
use Rattle.nl_reclaim.specs.declared.ends.Ended.{Ended}
use Rattle.nl_reclaim.specs.Counted.{AreEnds}
use Rattle.nl_reclaim.specs.PrivateCounts.Listed.{AreListed, counted_places, is_listed}
use Rattle.nl_reclaim.specs.PrivateCounts.Places.{AreCountsIn}
use Rattle.nl_reclaim.proofs.EndPlaces.{listed-place, place-listed, same_bool}

-- ---- counts

counts-same : (one other : ℕ → Bool) (n : ℕ) → ((v : ℕ) → one v ≡ other v)
    → by_segment.count_to one n ≡ by_segment.count_to other n
counts-same one other zero same = refl
counts-same one other (suc n) same =
    omega (arith, counts-same one other n same, ap by_segment.bit (same (suc n)))

-- where the blocks are the same, so are the counts
pub same-places : (s : Store) (at other : Partial ℕ) (counts : List ℕ) → ((v : ℕ) → at v ≡ other v)
    → AreCountsIn s at counts → AreCountsIn s other counts
same-places s at other counts same are = record {
  size = are.size;
  are = record {
    each = λ segment low. are.are.each segment low
        ∙ counts-same (λ v. by_segment.lies_in s.segments.blocks segment (at v))
        (λ v. by_segment.lies_in s.segments.blocks segment (other v)) (capacity s)
        (λ v. ap (by_segment.lies_in s.segments.blocks segment) (same v));
  };
}

module _ (standing : NeededAreStanding) (s : Store) (needed : Entry → Bool) (store : IsStore s) where
  -- each count, by number
  by-number : (segment : ℕ)
      → by_segment.count_in s.segments.blocks (capacity s) (needed_places s needed) segment
      ≡ needed_count s needed segment
  by-number segment = sym (standing s needed segment store)

  pub at-segment : (segment : ℕ) → segment < length s.segments.each
      → get_or (needed_counts s needed) segment 0 ≡ needed_count s needed segment
  at-segment segment low =
      get_or-map-range_with_len (needed_count s needed) 0 (length s.segments.each) segment segment 0 low
      (omega arith)

  as-many : length (needed_counts s needed) ≡ length s.segments.each
  as-many = length-map-range_with_len (needed_count s needed) 0 (length s.segments.each)

  pub needed-are-counted : AreCountsIn s (needed_places s needed) (needed_counts s needed)
  needed-are-counted = record {
    size = as-many;
    are = record {
      each = λ segment low. at-segment segment (omega (arith, low, as-many)) ∙ sym (by-number segment);
    };
  }

  pub counted-are-needed : (counts : List ℕ) → AreCountsIn s (needed_places s needed) counts
      → counts ≡ needed_counts s needed
  counted-are-needed counts are =
      same_number_lists counts (needed_counts s needed) (are.size ∙ sym as-many)
      (λ segment low.
      are.are.each segment low ∙ by-number segment
      ∙ sym (at-segment segment (omega (arith, low, are.size))))

-- ---- numbers in use

pub has-block : (s : Store) (v : ℕ) (e : Entry) → content_in s v ≡ Some e
    → (b : ℕ) × (address_in s v ≡ Some b)
has-block s v e at = by (numbered_in s v) refl at
  where
    by : (o : Option Numbered) → numbered_in s v ≡ o → option_map entry_now o ≡ Some e
        → (b : ℕ) × (address_in s v ≡ Some b)
    by None is at = cc
    by (Some n) is at = (n.block, ap (option_map block_now) is)

pub has-entry : (s : Store) (v b : ℕ) → address_in s v ≡ Some b → (e : Entry) × (content_in s v ≡ Some e)
has-entry s v b at = by (numbered_in s v) refl at
  where
    by : (o : Option Numbered) → numbered_in s v ≡ o → option_map block_now o ≡ Some b
        → (e : Entry) × (content_in s v ≡ Some e)
    by None is at = cc
    by (Some n) is at = (n.entry, ap (option_map entry_now) is)

pub unused-nowhere : (s : Store) (v : ℕ) → content_in s v ≡ None → address_in s v ≡ None
unused-nowhere s v at = by (numbered_in s v) refl at
  where
    by : (o : Option Numbered) → numbered_in s v ≡ o → option_map entry_now o ≡ None → address_in s v ≡ None
    by None is at = ap (option_map block_now) is
    by (Some n) is at = cc

-- ---- ends

-- what has not ended is needed
abbrev pub LiveAreNeeded : (Entry → Bool) → Type 0
LiveAreNeeded needed = (e : Entry) → e.end ≡ None → needed e ≡ true

module _ (s : Store) (needed : Entry → Bool) (live_needed : LiveAreNeeded needed) (ends : List Ended)
    (are : AreEnds (content_in s) needed ends) where
  -- a number in use counts exactly where it is needed
  pub counts-where-needed : (v : ℕ) (e : Entry) → content_in s v ≡ Some e
      → (is_live (content_in s v) || is_listed ends v) ≡ needed e
  counts-where-needed v e at = by e.end refl
    where
      live : is_live (content_in s v) ≡ is_none e.end
      live = ap is_live at

      ended : (end : ℕ) → e.end ≡ Some end → is_listed ends v ≡ needed e
      ended end is = same_bool (is_listed ends v) (needed e) there back
        where
          there : is_listed ends v ≡ true → needed e ≡ true
          there h =
              let (k, place) = listed-place ends v h in
              let has = are.theirs k v place in
              let same : has.entry ≡ e = (let both : Some has.entry ≡ Some e = sym has.in_use ∙ at in cc) in
              ap needed (sym same) ∙ has.passes

          back : needed e ≡ true → is_listed ends v ≡ true
          back h =
              let found = are.all v end (record { entry = e; in_use = at; ended = is; passes = h }) in
              place-listed ends found.0 v found.2

      by : (o : Option ℕ) → e.end ≡ o → (is_live (content_in s v) || is_listed ends v) ≡ needed e
      by None is = ap (λ b. b || is_listed ends v) (live ∙ ap is_none is) ∙ sym (live_needed e is)
      by (Some end) is = ap (λ b. b || is_listed ends v) (live ∙ ap is_none is) ∙ ended end is

  pub same-place : (v : ℕ) → counted_places s ends v ≡ needed_places s needed v
  same-place v = by (content_in s v) refl
    where
      nowhere : (b : Bool) (o : Option ℕ) → o ≡ None → cond {A = Option ℕ} b o None ≡ None
      nowhere true o is = is
      nowhere false o is = refl

      by : (o : Option Entry) → content_in s v ≡ o → counted_places s ends v ≡ needed_places s needed v
      by None at =
          let none : address_in s v ≡ None = unused-nowhere s v at in
          nowhere (is_live (content_in s v) || is_listed ends v) (address_in s v) none
          ∙ sym (nowhere (needs needed (content_in s) v) (address_in s v) none)
      by (Some e) at =
          ap (λ b. cond {A = Option ℕ} b (address_in s v) None)
          (counts-where-needed v e at ∙ sym (ap (entry_needed needed) at))

  pub listed-from : NeededAreStanding → IsStore s → (counts : List ℕ) → counts ≡ needed_counts s needed
      → AreListed s counts ends
  listed-from standing store counts is = record {
    counts =
        rw is (same-places s (needed_places s needed) (counted_places s ends) (needed_counts s needed)
        (λ v. sym (same-place v)) (needed-are-counted standing s needed store));
    in_use = λ k v place. let has = are.theirs k v place in has-block s v has.entry has.in_use;
    ended = λ k v place. let has = are.theirs k v place in ap is_live has.in_use ∙ ap is_none has.ended;
    once = are.once;
  }

  pub counts-from : NeededAreStanding → IsStore s → (counts : List ℕ)
      → AreCountsIn s (counted_places s ends) counts → counts ≡ needed_counts s needed
  counts-from standing store counts listed =
      counted-are-needed standing s needed store counts
      (same-places s (counted_places s ends) (needed_places s needed) counts same-place listed)
