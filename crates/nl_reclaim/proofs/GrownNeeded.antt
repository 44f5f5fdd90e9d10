-- Counts of a store that is grown.
use Rattle.std.proofs.Common.{◌≡◌, ℕ, ◌+◌, ◌-◌, ◌*◌, ◌<◌, ◌≤◌, Bool, true, false, cond, List, [], ◌∷◌, ◌++◌, take, length, Option, Some, None, inl, inr, sym, refl, ap, subst, ◌∙◌, arith}
use Rattle.std.specs.Option.{option_map}
use Rattle.std.proofs.Math.Nat.{mul-le-mul_right}
use Rattle.std.proofs.Math.ListN.{replicate}
use Rattle.std.proofs.lemmas.Bool.{cases_lt}
use Rattle.std.proofs.lemmas.Bool.Decides.{nat_tests}
use Rattle.std.proofs.lemmas.List.{length-append, length-replicate}
use Rattle.nl_types.specs.declared.error.VolError.{VolError}
use Rattle.nl_types.specs.declared.error.VolError.TheVariants as error
use Rattle.nl_types.specs.Blocks.PartialMaps.{Partial}
use Rattle.nl_types.specs.Blocks.Entries.{Entry, is_needed}
use Rattle.nl_types.specs.Blocks.Segments.{Segments, clean_info, total_blocks}
use Rattle.nl_types.specs.Facts.UsedParts.{used_inside}
use Rattle.nl_sufile.specs.BySegment.{AreCounts, GrownAreCounted, grown_counts, lies_in}
use Rattle.nl_vstore.specs.Counts.{NeededAreStanding, needed_counts, needed_places}
use Rattle.nl_vstore.specs.Located.{entry_needed}
use Rattle.nl_vstore.specs.Stores.{HasGrown, IsGrowthRefused, IsStore, StaysStored, Store, address_in, capacity, content_in, entry_now}
use Rattle.nl_reclaim.specs.Counted.{Counted, IsCounted, with_segments}
use Rattle.nl_reclaim.specs.Laws.{GrowthIsTakenBack, GrowthKeepsCounts, RefusedGrowthKeepsCounts}
use Rattle.nl_reclaim.specs.PrivateCounts.Places.{AreCountsIn}
use Rattle.nl_reclaim.proofs.JoinedCounts.{counted-are-needed, needed-are-counted, same-places}
use Rattle.nl_reclaim.proofs.StoreChanges.{ends-between, numbers-stay, place-for, same-sizes}

module _ (grow : GrownAreCounted) (standing : NeededAreStanding) (segments : ℕ) (kept : List ℕ) (c : Counted)
    (old new : Store)
    (old-store : IsStore old) (new-store : IsStore new) (more : length old.segments.each ≤ segments)
    (grown : HasGrown segments old new) (counted : IsCounted old kept c) where
  abbrev at : Partial ℕ
  at = needed_places old (is_needed kept)

  -- there are as many as were counted, and then as many as asked for
  size : length c.counts ≡ length old.segments.each
  size = ap length counted.counts ∙ (needed-are-counted standing old (is_needed kept) old-store).size

  count : length new.segments.each ≡ segments
  count =
      ap (λ (s : Segments). length s.each) grown.segments
      ∙ rw (length-append, length-replicate) (omega (arith, more))

  total : capacity new ≡ segments * old.segments.blocks
  total = ap (λ n. n * new.segments.blocks) count ∙ ap (λ (s : Segments). segments * s.blocks) grown.segments

  most : capacity old ≤ segments * old.segments.blocks
  most = mul-le-mul_right old.segments.blocks more

  -- where a needed number has its block
  placed : (v : ℕ) (b : ℕ) → at v ≡ Some b → address_in old v ≡ Some b
  placed v b is = by (entry_needed (is_needed kept) (content_in old v)) is
    where
      by : (t : Bool) → cond {A = Option ℕ} t (address_in old v) None ≡ Some b → address_in old v ≡ Some b
      by true is = is
      by false is = absurd (cc)

  none-later : (v : ℕ) → capacity old < v → at v ≡ None
  none-later v high = by (at v) refl
    where
      by : (o : Option ℕ) → at v ≡ o → at v ≡ None
      by None is = is
      by (Some b) is = absurd (omega (arith, high, (old-store.numbers v b (placed v b is)).1))

  none-inside : (v segment : ℕ) → length c.counts ≤ segment
      → lies_in old.segments.blocks segment (at v) ≡ false
  none-inside v segment high = by (at v) refl
    where
      by : (o : Option ℕ) → at v ≡ o → lies_in old.segments.blocks segment o ≡ false
      by None is = refl
      by (Some b) is =
          let low : b < total_blocks old.segments =
          used_inside old.segments b old-store.limits.tidy (old-store.used v b (placed v b is)) in
          let past : length old.segments.each * old.segments.blocks ≤ segment * old.segments.blocks =
          mul-le-mul_right old.segments.blocks (omega (arith, high, size)) in
          grind (arith, nat_tests)

  are-old : AreCounts old.segments.blocks (capacity old) at c.counts
  are-old =
      subst (λ (counts : List ℕ). AreCounts old.segments.blocks (capacity old) at counts) (sym counted.counts)
      (needed-are-counted standing old (is_needed kept) old-store).are

  are-more : AreCounts old.segments.blocks (capacity new) at (grown_counts segments c.counts)
  are-more =
      let sum : capacity old + (capacity new - capacity old) ≡ capacity new = omega (arith, total, most) in
      subst (λ n. AreCounts old.segments.blocks n at (grown_counts segments c.counts)) sum
      (grow old.segments.blocks (capacity old)
      (capacity new - capacity old) segments at c.counts none-later none-inside are-old)

  are-now : AreCountsIn new at (grown_counts segments c.counts)
  are-now = record {
    size = rw (length-append, length-replicate) (omega (arith, size, more, count));
    are =
        subst (λ b. AreCounts b (capacity new) at (grown_counts segments c.counts))
        (sym (ap (λ (s : Segments). s.blocks) grown.segments)) are-more;
  }

  pub grown-is-counted : IsCounted new kept (with_segments segments c)
  grown-is-counted = record {
    counts = counted-are-needed standing new (is_needed kept) new-store (grown_counts segments c.counts)
        (same-places new at (needed_places new (is_needed kept)) (grown_counts segments c.counts)
        (λ v. ap (place-for (is_needed kept)) (sym (grown.numbers v))) are-now);
    ends =
        ends-between (content_in old) (content_in new) (is_needed kept) c.ends
        (λ v. ap (option_map entry_now) (grown.numbers v)) counted.ends;
    below = counted.below;
  }

pub growth-keeps : GrownAreCounted → NeededAreStanding → GrowthKeepsCounts
growth-keeps grow standing segments kept c old new old-store new-store more grown counted =
    grown-is-counted grow standing segments kept c old new old-store new-store more grown counted

front : (counts more : List ℕ) → take (length counts) (counts ++ more) ≡ counts
front [] more = refl
front (count ∷ counts) more = ap (λ (xs : List ℕ). count ∷ xs) (front counts more)

pub growth-back : GrowthIsTakenBack
growth-back segments c =
    ap (λ (counts : List ℕ). record c { counts = counts })
    (front c.counts (replicate (segments - length c.counts) 0))

stays : NeededAreStanding → (kept : List ℕ) (c : Counted) (old new : Store) → IsStore old → IsStore new
    → StaysStored old new → IsCounted old kept c → IsCounted new kept c
stays standing kept c old new old-store new-store keeps counted =
    numbers-stay standing old new old-store new-store
    (same-sizes old.segments new.segments keeps.segments) kept c counted keeps.numbers

pub growth-refused : NeededAreStanding → RefusedGrowthKeepsCounts
growth-refused standing error.Fault kept c old new old-store new-store refused counted =
    stays standing kept c old new old-store new-store refused.2 counted
growth-refused standing error.Memory kept c old new old-store new-store refused counted =
    subst (λ (s : Store). IsCounted s kept c) (sym refused) counted
growth-refused standing e kept c old new old-store new-store refused counted = absurd refused
