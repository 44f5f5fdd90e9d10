-- Which segments are cleaned, and what a move and a retirement answer and do.
use Rattle.std.specs.Prelude.{◌≡◌, ℕ, ◌-◌, ◌<◌, ◌==◌, if◌then◌else◌, min, Bool, List, length, take, slice_get, IsOk, MatchResult, Option, None, Some, Result, Ok, Err}
use Rattle.nl_types.specs.declared.error.VolError.{VolError}
use Rattle.nl_types.specs.declared.error.VolError.TheVariants.{BadRange, Memory, SegActive, SegClean, SegError, StillNeeded}
use Rattle.nl_types.specs.declared.segment.SegmentInfo.{SegmentInfo}
use Rattle.nl_types.specs.declared.segment.SegmentState.{SegmentState}
use Rattle.nl_types.specs.declared.segment.SegmentState.TheVariants.{Clean, Dirty, Active, Error}
use Rattle.nl_types.specs.Blocks.Segments.{IsClosed, Segments}
use Rattle.nl_types.specs.Blocks.Entries.{Entry}
use Rattle.nl_vstore.specs.Stores.{AreInside, Store, IsMoved, IsMoveRefused}
use Rattle.nl_vstore.specs.Located.{numbers_in, needed_in, needed_count}
use Rattle.nl_reclaim.specs.declared.moving.MoveCount.{MoveCount}

-- ---- which segments

abbrev pub judged_by : SegmentState → SegmentInfo → Result SegmentInfo VolError
judged_by Clean i = Err SegClean
judged_by Dirty i = Ok i
judged_by Active i = Err SegActive
judged_by Error i = Err SegError

abbrev pub judged_info : Option SegmentInfo → Result SegmentInfo VolError
judged_info None = Err BadRange
judged_info (Some i) = judged_by i.state i

-- what is known of a segment that is dirty, or why it isn't cleaned
abbrev pub judged_segment : Segments → ℕ → Result SegmentInfo VolError
judged_segment s segment = judged_info (slice_get s.each segment)

-- the same for a move of up to so many pages
abbrev pub judged_for : Segments → ℕ → ℕ → Result SegmentInfo VolError
judged_for s segment limit = if limit == 0 then Err BadRange else judged_segment s segment

-- ---- moves

-- so many of those that there are, and the rest
abbrev pub split : ℕ → ℕ → MoveCount
split limit count = record { moved = min limit count; left = count - limit }

-- The numbers can be moved out of the segment: it takes no more logs, and their pages stand there.
pub record CanBeMoved (segment : ℕ) (numbers : List ℕ) (s : Store) : Type 0 where
  pub there : segment < length s.segments.each
  pub closed : IsClosed s.segments segment
  pub inside : AreInside s segment numbers

-- The segment may be cleaned. These are its first needed numbers, up to a limit, and it has so many in all.
pub record HasListedFirst (needed : Entry → Bool) (segment limit : ℕ) (s : Store) (listed : List ℕ)
    (count : ℕ) : Type 0 where
  pub judged : IsOk (judged_for s.segments segment limit)
  pub first : listed ≡ take limit (needed_in s needed segment)
  pub total : count ≡ needed_count s needed segment

-- why they aren't listed
abbrev pub HasListedNone : (segment limit : ℕ) → Store → VolError → Type 0
HasListedNone segment limit s e =
    MatchResult (judged_for s.segments segment limit) (λ _. e ≡ Memory) (λ refusal. e ≡ refusal)

-- The first needed numbers of a segment that may be cleaned are moved, up to a limit.
pub record HasMovedFirst (needed : Entry → Bool) (segment limit checkpoint stamp : ℕ) (old new : Store)
    (answer : MoveCount) : Type 0 where
  pub judged : IsOk (judged_for old.segments segment limit)
  pub answers : answer ≡ split limit (needed_count old needed segment)
  pub moved : IsMoved segment checkpoint stamp (take limit (needed_in old needed segment)) old new

-- why they aren't moved, and what is left then
abbrev pub HasMovedNone : (Entry → Bool) → ℕ → ℕ → ℕ → ℕ → Store → Store → VolError → Type 0
HasMovedNone needed segment limit checkpoint stamp old new e =
    MatchResult (judged_for old.segments segment limit)
    (λ _. IsMoveRefused checkpoint stamp (take limit (needed_in old needed segment)) old new e)
    (λ refusal. (e ≡ refusal) × (new ≡ old))

-- ---- retirements

-- what emptying a segment answers, of whose numbers so many are needed: how many have their pages there, if
-- none is needed
abbrev pub freed : Store → (needed segment : ℕ) → Result ℕ VolError
freed s needed segment = if needed == 0 then Ok (length (numbers_in s segment)) else Err StillNeeded

abbrev pub freed_with : Result SegmentInfo VolError → Store → (needed segment : ℕ) → Result ℕ VolError
freed_with (Err e) s needed segment = Err e
freed_with (Ok i) s needed segment = freed s needed segment

-- what a retirement answers that is told the count of needed numbers
abbrev pub retired_with : Store → (needed segment : ℕ) → Result ℕ VolError
retired_with s needed segment = freed_with (judged_segment s.segments segment) s needed segment

abbrev pub freed_by : Result SegmentInfo VolError → Store → (Entry → Bool) → ℕ → Result ℕ VolError
freed_by judged_segment s needed segment = freed_with judged_segment s (needed_count s needed segment) segment

-- what a retirement answers
abbrev pub retired : Store → (Entry → Bool) → ℕ → Result ℕ VolError
retired s needed segment = freed_by (judged_segment s.segments segment) s needed segment
