-- What is kept of a volume: how many needed numbers have their pages in each segment, and which needed
-- numbers have ended.
use Rattle.std.specs.Prelude.{◌≡◌, ℕ, ◌<◌, ◌≤◌, Bool, true, List, length, take, Some}
use Rattle.std.specs.List.Sorted.{IsNonDecreasingBy}
use Rattle.nl_types.specs.Plain.NumberLists.{is_one_of}
use Rattle.nl_types.specs.Blocks.Entries.{Content, Entry, is_needed}
use Rattle.nl_sufile.specs.BySegment.{grown_counts}
use Rattle.nl_vstore.specs.Counts.{needed_counts}
use Rattle.nl_vstore.specs.Stores.{Store, content_in}
use Rattle.nl_reclaim.specs.declared.ends.Ended.{Ended}
use Rattle.nl_reclaim.specs.EndLists.{end_at, end_of}

pub record Counted : Type 0 where
  pub counts : List ℕ
  pub ends : List Ended
  -- for how many more ends there is room
  pub room : ℕ

-- the number is in use, has ended there, and is needed
pub record HasEndedNeeded (content : Content) (needed : Entry → Bool) (v end : ℕ) : Type 0 where
  pub entry : Entry
  pub in_use : content v ≡ Some entry
  pub ended : entry.end ≡ Some end
  pub passes : needed entry ≡ true

-- They ascend by their ends. Each number is a needed one with its end, in one place of the list, and each
-- needed number that has ended is there.
pub record AreEnds (content : Content) (needed : Entry → Bool) (ends : List Ended) : Type 0 where
  pub rising : IsNonDecreasingBy end_of ends
  pub theirs : (k v : ℕ) → (end_at ends k).number ≡ Some v
      → HasEndedNeeded content needed v (end_at ends k).end
  pub all : (v end : ℕ) → HasEndedNeeded content needed v end
      → (k : ℕ) × (k < length ends) × ((end_at ends k).number ≡ Some v) × ((end_at ends k).end ≡ end)
  pub once : (k j v : ℕ) → (end_at ends k).number ≡ Some v → (end_at ends j).number ≡ Some v → k ≡ j

-- each end, that of a number let go too, is at or below a kept checkpoint
abbrev pub AreBelow : List ℕ → List Ended → Type 0
AreBelow kept ends =
    (k : ℕ) → k < length ends → (c : ℕ) × (is_one_of kept c ≡ true) × ((end_at ends k).end ≤ c)

-- the counts are those of the needed numbers, and the ends those of the needed numbers that have ended
pub record IsCounted (s : Store) (kept : List ℕ) (c : Counted) : Type 0 where
  pub counts : c.counts ≡ needed_counts s (is_needed kept)
  pub ends : AreEnds (content_in s) (is_needed kept) c.ends
  pub below : AreBelow kept c.ends

-- with counts of more segments, in which no needed number stands
abbrev pub with_segments : ℕ → Counted → Counted
with_segments segments c = record c { counts = grown_counts segments c.counts }

-- with those of the first segments alone
abbrev pub with_first : ℕ → Counted → Counted
with_first segments c = record c { counts = take segments c.counts }
