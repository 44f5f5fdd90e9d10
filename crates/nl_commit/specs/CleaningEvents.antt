-- What moves out of segments, retirements of segments and resizes answer, and what they do to the blocks.
use Rattle.std.specs.Prelude.{◌≡◌, ℕ, ◌+◌, ◌<◌, ◌≤◌, Bool, false, if◌then◌else◌, nat_lt, List, length, take, MatchResult, Ok, Err, min}
use Rattle.nl_types.specs.declared.error.VolError.{VolError}
use Rattle.nl_types.specs.declared.error.VolError.TheVariants as error
use Rattle.nl_types.specs.declared.event.Event.{Event}
use Rattle.nl_types.specs.declared.event.Event.TheVariants as event
use Rattle.nl_types.specs.declared.reply.Answer.{Answer}
use Rattle.nl_types.specs.declared.reply.Answer.TheVariants.{Done, Freed, Moved}
use Rattle.nl_types.specs.Plain.Calls.{and_then}
use Rattle.nl_types.specs.Blocks.Entries.{Entry, is_needed}
use Rattle.nl_types.specs.Plain.Limits.{checkpoint_number_limit, is_geometry}
use Rattle.nl_types.specs.Blocks.Placing.{LacksSpace}
use Rattle.nl_types.specs.Blocks.Segments.{Segments}
use Rattle.nl_types.specs.Plain.Worlds.{Reply}
use Rattle.nl_cpfile.specs.Tables as cpfile
use Rattle.nl_vstore.specs.Located.{needed_count, needed_in}
use Rattle.nl_vstore.specs.Stores.{HasGrown, IsGrowthRefused, IsMoveRefused, IsReclaimed, Store}
use Rattle.nl_reclaim.specs.Cleaning.{HasMovedFirst, judged_for, retired, split}
use Rattle.nl_reclaim.specs.declared.moving.MoveCount.{MoveCount}
use Rattle.nl_commit.specs.Draft.{HasNextNumber}
use Rattle.nl_commit.specs.Volume.{Lists, kept_by}

-- the numbers of the kept checkpoints
abbrev pub kept_numbers : Lists → List ℕ
kept_numbers l = cpfile.kept_numbers (kept_by l)

-- a number that has not ended, or belongs to one of these, is needed
abbrev pub needed_by : Lists → Entry → Bool
needed_by l = is_needed (kept_numbers l)

-- ---- answers

abbrev pub moved_answer : MoveCount → Answer
moved_answer m = Moved m.moved m.left

-- how many of a segment's needed blocks a move takes, and how many are left
abbrev pub move_count : Lists → Store → (segment limit : ℕ) → MoveCount
move_count l s segment limit = split limit (needed_count s (needed_by l) segment)

-- what a move answers, where it is not refused for numbers, space, a fault or memory
abbrev pub moved_by : Lists → Store → (segment limit : ℕ) → Reply
moved_by l s segment limit =
    and_then (judged_for s.segments segment limit) (λ _. Ok (moved_answer (move_count l s segment limit)))

abbrev pub retired_by : Lists → Store → (segment : ℕ) → Reply
retired_by l s segment = and_then (retired s (needed_by l) segment) (λ count. Ok (Freed count))

-- what a resize answers, where it is not refused for a fault or memory
abbrev pub resized_in : Segments → (segments : ℕ) → Reply
resized_in s segments =
    if nat_lt segments (length s.each) then Err error.BadRange
    else (if is_geometry segments s.blocks then Ok Done else Err error.BadGeometry)

abbrev pub resized_by : Store → (segments : ℕ) → Reply
resized_by s segments = resized_in s.segments segments

-- what these three answer; that of other events is not looked at
abbrev pub cleaned_by : Lists → Store → Event → Reply
cleaned_by l s (event.Move segment limit now) = moved_by l s segment limit
cleaned_by l s (event.Retire segment) = retired_by l s segment
cleaned_by l s (event.Resize segments) = resized_by s segments
cleaned_by l s event = Ok Done

-- ---- what they do

-- the first needed blocks of the segment were moved, as the answer says, in logs of the next checkpoint
pub record HasMovedOut (segment limit moment : ℕ) (answer : Answer) (l : Lists)
    (old new : Store) : Type 0 where
  pub count : MoveCount
  pub answer_is : answer ≡ moved_answer count
  pub moved : HasMovedFirst (needed_by l) segment limit (l.table.latest.number + 1) moment old new count
  pub left : 0 < count.moved → HasNextNumber l

-- the first needed blocks of the segment are not moved into logs of the next checkpoint
abbrev pub AreNotMoved : (segment limit moment : ℕ) → Lists → Store → Store → VolError → Type 0
AreNotMoved segment limit moment l old new e =
    IsMoveRefused (l.table.latest.number + 1) moment
    (take limit (needed_in old (needed_by l) segment)) old new e

-- Why blocks of a segment that may be cleaned are not moved, and what is left then: numbers are judged before
-- anything is read or written, and only where there are blocks to move.
abbrev pub IsMoveRefusal : (segment limit moment : ℕ) → Lists → Store → Store → VolError → Type 0
IsMoveRefusal segment limit moment l old new error.NumbersSpent =
    (new ≡ old) × (0 < needed_count old (needed_by l) segment)
    × (checkpoint_number_limit ≤ l.table.latest.number + 1)
IsMoveRefusal segment limit moment l old new error.NoSpace =
    HasNextNumber l × AreNotMoved segment limit moment l old new error.NoSpace
IsMoveRefusal segment limit moment l old new error.Fault =
    HasNextNumber l × AreNotMoved segment limit moment l old new error.Fault
IsMoveRefusal segment limit moment l old new e = AreNotMoved segment limit moment l old new e

-- the segment is judged first
abbrev pub HasMovedNothing : (segment limit moment : ℕ) → Lists → Store → Store → VolError → Type 0
HasMovedNothing segment limit moment l old new e =
    MatchResult (judged_for old.segments segment limit) (λ _. IsMoveRefusal segment limit moment l old new e)
    (λ refusal. (e ≡ refusal) × (new ≡ old))

-- the segment had no needed block, and is clean
pub record HasEmptied (segment : ℕ) (answer : Answer) (l : Lists) (old new : Store) : Type 0 where
  pub count : ℕ
  pub answer_is : answer ≡ Freed count
  pub judged : retired old (needed_by l) segment ≡ Ok count
  pub reclaimed : IsReclaimed segment count old new

-- no list of logs fits the blocks that a move takes
abbrev pub LacksSpaceToMove : Lists → Store → (segment limit : ℕ) → Type 0
LacksSpaceToMove l s segment limit =
    LacksSpace s.segments false (min limit (needed_count s (needed_by l) segment))

-- there are so many segments, and where there were as many nothing changed
pub record HasResized (segments : ℕ) (answer : Answer) (old new : Store) : Type 0 where
  pub answer_is : answer ≡ Done
  pub judged : resized_by old segments ≡ Ok Done
  pub grown : HasGrown segments old new
  pub same : segments ≡ length old.segments.each → new ≡ old

-- why segments are not added, and what is left then; what is asked for is judged first
abbrev pub HasResizedNone : (segments : ℕ) → Store → Store → VolError → Type 0
HasResizedNone segments old new error.Fault =
    (resized_by old segments ≡ Ok Done) × IsGrowthRefused old new error.Fault
HasResizedNone segments old new error.Memory =
    (resized_by old segments ≡ Ok Done) × IsGrowthRefused old new error.Memory
HasResizedNone segments old new e = (new ≡ old) × (resized_by old segments ≡ Err e)
