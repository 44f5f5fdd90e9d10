-- What each call of an event needs, and what it leaves.
use Rattle.std.proofs.Common.{◌≡◌, ℕ, ◌<◌, ◌≤◌, List, [], ◌∷◌, ◌++◌, ◌⊎◌, inl, inr, length, map, Some, sym, refl, ap, subst, ◌∙◌}
use Rattle.std.specs.List.Sorted.{IsNonDecreasingBy, IsPermutation}
use Rattle.std.specs.Prelude.{OnErr, OnOk, Result, Ok, Err}
use Rattle.nl_types.specs.Blocks.PartialMaps.{Partial}
use Rattle.nl_types.specs.Blocks.Entries.{Entry, is_needed}
use Rattle.nl_types.specs.Blocks.Lifetimes.{WritesAreByNumber}
use Rattle.nl_types.specs.Blocks.NeedLaws.{AreGone, CheckpointsKeepNeeds}
use Rattle.nl_vstore.specs.Content.{Payload}
use Rattle.nl_vstore.specs.Batches.{Changes, births_of, number_of_payload}
use Rattle.nl_vstore.specs.Counts.{NeededAreStanding, needed_counts, needed_places}
use Rattle.nl_vstore.specs.Located.{entry_needed, needs}
use Rattle.nl_vstore.specs.Stores.{IsStore, Store, address_in, capacity, content_in}
use Rattle.nl_reclaim.specs.declared.ends.Ended.{Ended}
use Rattle.nl_reclaim.specs.PrivateCounts.Adding.{GetBlocks, LeaveSegment, mixed}
use Rattle.nl_reclaim.specs.Counted.{AreEnds, Counted, IsCounted}
use Rattle.nl_reclaim.specs.EndLists.{IsRun, RoomyEnds, end_at, end_of, noted_ends, swept}
use Rattle.nl_reclaim.specs.Events.{HasMovedNeeded, IsLatest, IsNextWritten}
use Rattle.nl_reclaim.specs.PrivateCounts.Listed.{AreListed, HasLetGoAll}
use Rattle.nl_reclaim.specs.PrivateCounts.Places.{AreCountsIn}
use Rattle.nl_reclaim.specs.PrivateCounts.Walked.{AreFound, HasWalked}
use Rattle.nl_reclaim.proofs.JoinedCounts.{counts-from, listed-from}
use Rattle.nl_reclaim.proofs.MovedCounts as moved
use Rattle.nl_reclaim.proofs.RemovedEnds.{LetsGo, below-left, ends-left}
use Rattle.nl_reclaim.proofs.SweptEnds.{below-swept, ends-swept}
use Rattle.nl_reclaim.proofs.WalkedCounts.{found-are-ends, found-in-order, walked-is-counted}
use Rattle.nl_reclaim.proofs.WrittenCounts as written
use Rattle.nl_reclaim.proofs.WrittenEnds.{live-needed}

-- ---- checkpoints

numbers-same : (payload : List Payload) (changes : Changes) → births_of payload ≡ changes.births
    → map number_of_payload payload ≡ written.numbers_of changes.births
numbers-same payload changes is = of-payload payload ∙ ap written.numbers_of is
  where
    of-payload : (items : List Payload) → map number_of_payload items ≡ written.numbers_of (births_of items)
    of-payload [] = refl
    of-payload (item ∷ items) = ap (λ (ns : List ℕ). number_of_payload item ∷ ns) (of-payload items)

module _ (standing : NeededAreStanding) (keep : CheckpointsKeepNeeds) (by_number : WritesAreByNumber)
    (checkpoint : ℕ) (changes : Changes) (payload : List Payload)
    (births : births_of payload ≡ changes.births) (new : Store) (store : IsStore new) where
  pub before-written : (old : Store) (kept : List ℕ) (c : Counted) → IsCounted old kept c
      → IsNextWritten checkpoint changes kept old new
      → (at : Partial ℕ) × GetBlocks new (map number_of_payload payload) at × AreCountsIn new at c.counts
  before-written old kept c counted next = (
    needed_places old (is_needed kept),
    subst (λ (ns : List ℕ). GetBlocks new ns (needed_places old (is_needed kept)))
        (sym (numbers-same payload changes births))
        (written.births-get-blocks standing keep by_number checkpoint changes kept old new next store),
    written.counted-before standing keep by_number checkpoint changes kept old new next store c counted,
  )

  pub after-written : (c d : Counted) (gone : List ℕ) → gone ≡ changes.ends
      → ((at : Partial ℕ) → GetBlocks new (map number_of_payload payload) at → AreCountsIn new at c.counts
      → AreCountsIn new (mixed (map number_of_payload payload) (address_in new) at) d.counts)
      → d.ends ≡ c.ends ++ noted_ends checkpoint gone
      → (old : Store) (kept : List ℕ) → IsCounted old kept c → IsNextWritten checkpoint changes kept old new
      → IsCounted new (kept ++ checkpoint ∷ []) d
  unfolding before-written
  after-written c d gone gone-is counts ends-are old kept counted next =
      let before = before-written old kept c counted next in
      let are : AreCountsIn new
      (mixed (written.numbers_of changes.births) (address_in new) (needed_places old (is_needed kept)))
      d.counts =
      subst (λ (ns : List ℕ).
      AreCountsIn new (mixed ns (address_in new) (needed_places old (is_needed kept))) d.counts)
      (numbers-same payload changes births)
      (counts before.0 before.1 before.2) in
      subst (λ (ends : List Ended). IsCounted new (kept ++ checkpoint ∷ []) (record d { ends = ends }))
      (ap (λ (ns : List ℕ). c.ends ++ noted_ends checkpoint ns) (sym gone-is) ∙ sym ends-are)
      (written.written-is-counted standing keep by_number checkpoint changes kept old new next store c counted
      d.counts d.room are)

-- ---- moves

module _ (standing : NeededAreStanding) (segment : ℕ) (numbers : List ℕ) (new : Store)
    (store : IsStore new) where
  pub before-moved : (old : Store) (kept : List ℕ) (c : Counted) → IsCounted old kept c
      → HasMovedNeeded segment numbers kept old new
      → (at : Partial ℕ) × LeaveSegment new segment numbers at × AreCountsIn new at c.counts
  before-moved old kept c counted has = (
    needed_places old (is_needed kept),
    moved.moves-leave-segment standing segment numbers kept old new has store,
    moved.counted-before standing segment numbers kept old new has store c counted,
  )

  pub after-moved : (c d : Counted)
      → ((at : Partial ℕ) → LeaveSegment new segment numbers at → AreCountsIn new at c.counts
      → AreCountsIn new (mixed numbers (address_in new) at) d.counts)
      → d.ends ≡ c.ends
      → (old : Store) (kept : List ℕ) → IsCounted old kept c → HasMovedNeeded segment numbers kept old new
      → IsCounted new kept d
  unfolding before-moved
  after-moved c d counts ends-are old kept counted has =
      let before = before-moved old kept c counted has in
      let is =
      moved.moved-is-counted standing segment numbers kept old new has store c counted d.counts
      (counts before.0 before.1 before.2) in
      record {
        counts = is.counts;
        ends = rw ends-are is.ends;
        below = rw ends-are is.below;
      }

-- ---- removals

told : (s : Store) (stay : List ℕ) (v : ℕ) (e : Entry) → content_in s v ≡ Some e
    → needs (is_needed stay) (content_in s) v ≡ is_needed stay e
told s stay v e at = ap (entry_needed (is_needed stay)) at

module _ (standing : NeededAreStanding) (s : Store) (store : IsStore s) where
  pub is-listed : (kept : List ℕ) (c : Counted) → IsCounted s kept c → AreListed s c.counts c.ends
  is-listed kept c counted =
      listed-from s (is_needed kept)
      (live-needed kept) c.ends counted.ends standing store c.counts counted.counts

  module _ (lets : LetsGo) (stay : List ℕ) (first next from to : ℕ) (c : Counted)
      (run : IsRun first next from to c.ends) (left : List Ended) (counts : List ℕ)
      (listed : AreListed s counts left)
      (gone : HasLetGoAll (needs (is_needed stay) (content_in s)) from to c.ends left) where
    ends-now : (kept : List ℕ) → IsCounted s kept c → AreGone first next kept stay
        → AreEnds (content_in s) (is_needed stay) left
    ends-now kept counted removed =
        ends-left lets (content_in s)
        (needs (is_needed stay) (content_in s)) first next from to kept stay c.ends left removed
        (told s stay) run counted.ends gone

    pub after-removal : (kept : List ℕ) → IsCounted s kept c → AreGone first next kept stay
        → counts ≡ needed_counts s (is_needed stay)
    after-removal kept counted removed =
        counts-from s (is_needed stay) (live-needed stay) left
        (ends-now kept counted removed) standing store counts listed.counts

    pub after-removed : (room : ℕ) (kept : List ℕ) → IsCounted s kept c → AreGone first next kept stay
        → IsCounted s stay (record { counts = counts; ends = left; room = room })
    after-removed room kept counted removed = record {
      counts = after-removal kept counted removed;
      ends = ends-now kept counted removed;
      below =
          below-left lets (content_in s)
          (needs (is_needed stay) (content_in s)) first next from to kept stay c.ends left removed
          (told s stay) run counted.ends gone counted.below;
    }

  -- ---- a walk

  pub after-walk : (kept counts : List ℕ) (found ends : List Ended)
      → HasWalked s (is_needed kept) (capacity s) counts found
      → IsNonDecreasingBy end_of ends → IsPermutation found ends → (room latest : ℕ)
      → IsLatest latest kept s
      → IsCounted s kept (record { counts = counts; ends = ends; room = room })
  after-walk kept counts found ends walked rising same room latest last = record {
    counts = walked-is-counted s (is_needed kept) store standing counts found walked;
    ends = found-are-ends s (is_needed kept) ends store rising in-order;
    below = λ k low. (latest, last.there, low-end k low);
  }
    where
      in-order : AreFound (content_in s) (is_needed kept) (capacity s) ends
      in-order = found-in-order (content_in s) (is_needed kept) (capacity s) found ends same walked.found

      low-end : (k : ℕ) → k < length ends → (end_at ends k).end ≤ latest
      low-end k low =
          let (v, is) = in-order.full k low in
          let has = in-order.theirs k v is in
          last.bounded.ends v has.entry (end_at ends k).end has.in_use has.ended

-- ---- room

after-room : (c d : Counted) → d.counts ≡ c.counts → (d.ends ≡ c.ends) ⊎ (d.ends ≡ swept c.ends)
    → (s : Store) (kept : List ℕ) → IsCounted s kept c → IsCounted s kept d
after-room c d counts (inl same) s kept counted = record {
  counts = counts ∙ counted.counts;
  ends = rw same counted.ends;
  below = rw same counted.below;
}
after-room c d counts (inr swept-are) s kept counted = record {
  counts = counts ∙ counted.counts;
  ends = rw swept-are (ends-swept (content_in s) (is_needed kept) c.ends counted.ends);
  below = rw swept-are (below-swept kept c.ends counted.below);
}

abbrev with-ends : List ℕ → RoomyEnds → Counted
with-ends counts ends = record { counts = counts; ends = ends.ended; room = ends.room }

pub after-reserve : {A E : Type 0} (r : Result A E) (counts : List ℕ) (old new : RoomyEnds)
    → OnOk r ((new.ended ≡ old.ended) ⊎ (new.ended ≡ swept old.ended)) → OnErr r (new ≡ old)
    → (s : Store) (kept : List ℕ)
    → IsCounted s kept (record { counts = counts; ends = old.ended; room = old.room })
    → IsCounted s kept (record { counts = counts; ends = new.ended; room = new.room })
after-reserve (Ok a) counts old new swept-are same s kept counted =
    after-room (with-ends counts old) (with-ends counts new) refl swept-are s kept counted
after-reserve (Err e) counts old new swept-are same s kept counted =
    after-room (with-ends counts old) (with-ends counts new) refl
    (inl (ap (λ (r : RoomyEnds). r.ended) same)) s kept counted
