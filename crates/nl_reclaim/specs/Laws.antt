-- What events that change no count leave, and what a store begins with.
use Rattle.std.specs.Prelude.{◌≡◌, ℕ, ◌<◌, ◌≤◌, Bool, List, [], ◌∷◌, ◌++◌, length, replicate, take, None}
use Rattle.nl_types.specs.declared.error.VolError.{VolError}
use Rattle.nl_types.specs.Blocks.Entries.{Entry, is_needed}
use Rattle.nl_vstore.specs.Batches.{Changes}
use Rattle.nl_vstore.specs.Located.{needed_count, needed_in}
use Rattle.nl_vstore.specs.Stores.{HasGrown, IsGrowthRefused, IsMoveRefused, IsReclaimed, IsStore, IsWriteRefused, KeepsStored, Store, content_in}
use Rattle.nl_reclaim.specs.Counted.{Counted, IsCounted, with_first, with_segments}
use Rattle.nl_reclaim.specs.Events.{AreNeededIn, IsNextWritten}

-- a retirement of a segment without a needed number
abbrev pub RetirementsKeepCounts : Type 0
RetirementsKeepCounts =
    (segment count : ℕ) (kept : List ℕ) (c : Counted) (old new : Store) → IsStore old → IsStore new
    → segment < length old.segments.each → needed_count old (is_needed kept) segment ≡ 0
    → IsReclaimed segment count old new
    → IsCounted old kept c → IsCounted new kept c

-- reads of the device, which change no number
abbrev pub ReadsKeepCounts : Type 0
ReadsKeepCounts =
    (kept : List ℕ) (c : Counted) (old new : Store) → IsStore old → IsStore new → KeepsStored old new
    → IsCounted old kept c → IsCounted new kept c

-- a checkpoint without births and ends
abbrev pub no_changes : Changes
no_changes = record { births = []; ends = [] }

abbrev pub EmptyCheckpointsKeepCounts : Type 0
EmptyCheckpointsKeepCounts = (checkpoint : ℕ) (kept : List ℕ) (c : Counted) (old new : Store) → IsStore new
    → IsNextWritten checkpoint no_changes kept old new
    → IsCounted old kept c → IsCounted new (kept ++ checkpoint ∷ []) c

-- a write or a move that is refused, be it in the middle of it
abbrev pub RefusedWritesKeepCounts : Type 0
RefusedWritesKeepCounts =
    (checkpoint stamp : ℕ) (changes : Changes) (e : VolError) (kept : List ℕ) (c : Counted) (old new : Store)
    → IsStore old → IsStore new → IsWriteRefused checkpoint stamp changes old new e
    → IsCounted old kept c → IsCounted new kept c

abbrev pub RefusedMovesKeepCounts : Type 0
RefusedMovesKeepCounts =
    (checkpoint stamp : ℕ) (numbers : List ℕ) (e : VolError) (kept : List ℕ) (c : Counted) (old new : Store)
    → IsStore old → IsStore new → IsMoveRefused checkpoint stamp numbers old new e
    → IsCounted old kept c → IsCounted new kept c

-- more segments, behind the others
abbrev pub GrowthKeepsCounts : Type 0
GrowthKeepsCounts = (segments : ℕ) (kept : List ℕ) (c : Counted) (old new : Store) → IsStore old → IsStore new
    → length old.segments.each ≤ segments → HasGrown segments old new
    → IsCounted old kept c → IsCounted new kept (with_segments segments c)

-- which may be taken back
abbrev pub GrowthIsTakenBack : Type 0
GrowthIsTakenBack = (segments : ℕ) (c : Counted) → with_first (length c.counts) (with_segments segments c) ≡ c

-- and where they are refused
abbrev pub RefusedGrowthKeepsCounts : Type 0
RefusedGrowthKeepsCounts =
    (e : VolError) (kept : List ℕ) (c : Counted) (old new : Store) → IsStore old → IsStore new
    → IsGrowthRefused old new e → IsCounted old kept c → IsCounted new kept c

-- of a store without a number in use all counts are 0, whatever is kept
abbrev pub UnusedStoresAreCounted : Type 0
UnusedStoresAreCounted =
    (s : Store) (kept : List ℕ) (c : Counted) → IsStore s → ((v : ℕ) → content_in s v ≡ None)
    → c.counts ≡ replicate (length s.segments.each) 0 → c.ends ≡ [] → IsCounted s kept c

-- ---- what a move takes

-- the first needed numbers of a segment
abbrev pub FirstNeededStandThere : Type 0
FirstNeededStandThere = (s : Store) (needed : Entry → Bool) (segment limit : ℕ)
    → AreNeededIn s needed segment (take limit (needed_in s needed segment))
