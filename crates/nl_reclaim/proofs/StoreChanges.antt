-- What stays the same between two stores.
use Rattle.std.proofs.Common.{◌≡◌, ℕ, ◌*◌, Bool, cond, List, [], ◌∷◌, length, Option, None, sym, refl, ap, subst, ◌∙◌}
use Rattle.std.specs.Prelude.{slice_index_or, slice_set}
use Rattle.std.specs.Option.{option_map}
use Rattle.std.proofs.lemmas.List.{length-map, length-set}
use Rattle.nl_types.specs.declared.segment.Log.{Log}
use Rattle.nl_types.specs.declared.segment.SegmentInfo.{SegmentInfo}
use Rattle.nl_types.specs.Blocks.PartialMaps.{Partial}
use Rattle.nl_types.specs.Blocks.Entries.{Content, Entry, is_needed}
use Rattle.nl_types.specs.Blocks.Placing.{with_log, with_logs}
use Rattle.nl_types.specs.Blocks.Segments.{Segments, at_rest, none_active, with_clean, with_error}
use Rattle.nl_sufile.specs.BySegment.{AreCounts}
use Rattle.nl_vstore.specs.Counts.{NeededAreStanding, needed_counts, needed_places}
use Rattle.nl_vstore.specs.Located.{entry_needed}
use Rattle.nl_vstore.specs.Stores.{IsStore, Numbered, Store, block_now, capacity, content_in, entry_now}
use Rattle.nl_reclaim.specs.declared.ends.Ended.{Ended}
use Rattle.nl_reclaim.specs.Counted.{AreEnds, Counted, HasEndedNeeded, IsCounted}
use Rattle.nl_reclaim.specs.PrivateCounts.Places.{AreCountsIn}
use Rattle.nl_reclaim.proofs.JoinedCounts.{counted-are-needed, needed-are-counted, same-places}

-- ---- sizes

-- there are as many segments, and as many blocks in each
pub record SameSizes (old new : Segments) : Type 0 where
  pub blocks : new.blocks ≡ old.blocks
  pub segments : length new.each ≡ length old.each

pub set-length : (each : List SegmentInfo) (segment : ℕ) (info : SegmentInfo)
    → length (slice_set (none_active each) segment info) ≡ length each
set-length each segment info = length-set (none_active each) segment info ∙ length-map each at_rest

logs-length : (s : Segments) (logs : List Log) (stamp : ℕ)
    → length (with_logs s logs stamp).each ≡ length s.each
logs-length s [] stamp = refl
logs-length s (log ∷ logs) stamp =
    logs-length (with_log s log stamp) logs stamp ∙ set-length s.each log.segment _

logs-blocks : (s : Segments) (logs : List Log) (stamp : ℕ) → (with_logs s logs stamp).blocks ≡ s.blocks
logs-blocks s [] stamp = refl
logs-blocks s (log ∷ logs) stamp = logs-blocks (with_log s log stamp) logs stamp

-- so after logs, after logs of which one broke off, and after a segment was emptied
pub sizes-with-logs : (old new : Segments) (logs : List Log) (stamp : ℕ) → new ≡ with_logs old logs stamp
    → SameSizes old new
sizes-with-logs old new logs stamp is = record {
  blocks = ap (λ (s : Segments). s.blocks) is ∙ logs-blocks old logs stamp;
  segments = ap (λ (s : Segments). length s.each) is ∙ logs-length old logs stamp;
}

pub sizes-with-error : (old new : Segments) (logs : List Log) (stamp segment : ℕ)
    → new ≡ with_error (with_logs old logs stamp) segment → SameSizes old new
sizes-with-error old new logs stamp segment is = record {
  blocks = ap (λ (s : Segments). s.blocks) is ∙ logs-blocks old logs stamp;
  segments =
      ap (λ (s : Segments). length s.each) is ∙ set-length (with_logs old logs stamp).each segment _
      ∙ logs-length old logs stamp;
}

pub sizes-with-clean : (old new : Segments) (segment : ℕ) → new ≡ with_clean old segment → SameSizes old new
sizes-with-clean old new segment is = record {
  blocks = ap (λ (s : Segments). s.blocks) is;
  segments = ap (λ (s : Segments). length s.each) is ∙ length-set old.each segment _;
}

pub same-sizes : (old new : Segments) → new ≡ old → SameSizes old new
same-sizes old new is =
    record { blocks = ap (λ (s : Segments). s.blocks) is; segments = ap (λ (s : Segments). length s.each) is }

-- counts of one store are counts of the other
pub counts-between : (old new : Store) → SameSizes old.segments new.segments
    → (at : Partial ℕ) (counts : List ℕ) → AreCountsIn old at counts → AreCountsIn new at counts
counts-between old new sizes at counts are = record {
  size = are.size ∙ sym sizes.segments;
  are = subst (λ (b : ℕ). AreCounts b (capacity new) at counts) (sym sizes.blocks)
      (subst (λ (n : ℕ). AreCounts old.segments.blocks n at counts) (sym as-many) are.are);
}
  where
    as-many : capacity new ≡ capacity old
    as-many =
        ap (λ n. n * new.segments.blocks) sizes.segments ∙ ap (λ b. length old.segments.each * b) sizes.blocks

-- ---- content

ended-there : (old new : Content) (needed : Entry → Bool) (v end : ℕ) → new v ≡ old v
    → HasEndedNeeded old needed v end → HasEndedNeeded new needed v end
ended-there old new needed v end same has =
    record { entry = has.entry; in_use = same ∙ has.in_use; ended = has.ended; passes = has.passes }

pub ends-between : (old new : Content) (needed : Entry → Bool) (ends : List Ended) → ((v : ℕ) → new v ≡ old v)
    → AreEnds old needed ends → AreEnds new needed ends
ends-between old new needed ends same are = record {
  rising = are.rising;
  theirs = λ k v is. ended-there old new needed v _ (same v) (are.theirs k v is);
  all = λ v end has. are.all v end (ended-there new old needed v end (sym (same v)) has);
  once = are.once;
}

-- ---- stores with the same numbers

-- the block of what is needed
abbrev pub place-for : (Entry → Bool) → Option Numbered → Option ℕ
place-for needed o =
    cond {A = Option ℕ} (entry_needed needed (option_map entry_now o)) (option_map block_now o) None

module _ (standing : NeededAreStanding) (old new : Store) (old-store : IsStore old) (new-store : IsStore new)
    (sizes : SameSizes old.segments new.segments) (kept : List ℕ) (c : Counted)
    (counted : IsCounted old kept c) where
  -- the counts stay where each needed number does
  pub counts-stay : ((v : ℕ) → needed_places old (is_needed kept) v ≡ needed_places new (is_needed kept) v)
      → c.counts ≡ needed_counts new (is_needed kept)
  counts-stay same =
      counted-are-needed standing new (is_needed kept) new-store c.counts
      (same-places new (needed_places old (is_needed kept)) (needed_places new (is_needed kept)) c.counts same
      (counts-between old new sizes (needed_places old (is_needed kept)) c.counts
      (rw counted.counts (needed-are-counted standing old (is_needed kept) old-store))))

  pub numbers-stay : new.numbers ≡ old.numbers → IsCounted new kept c
  numbers-stay same = record {
    counts =
        counts-stay (λ v.
        ap (λ (ns : List (Option Numbered)). place-for (is_needed kept) (slice_index_or ns v None))
        (sym same));
    ends = ends-between (content_in old) (content_in new) (is_needed kept) c.ends
        (λ v. ap (λ (ns : List (Option Numbered)). option_map entry_now (slice_index_or ns v None)) same)
        counted.ends;
    below = counted.below;
  }
