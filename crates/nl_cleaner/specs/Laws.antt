-- What moves, retirements and rounds come to.
use Rattle.std.specs.Prelude.{◌≡◌, ◌⊎◌, ◌<◌, ◌≤◌, ◌*◌, ℕ, All, Bool, Contains, IfSome, IsOk, List, MatchResult, length, map, None, Some, true}
use Rattle.nl_types.specs.declared.error.VolError.TheVariants.{Memory}
use Rattle.nl_types.specs.declared.event.Event.{Event}
use Rattle.nl_types.specs.declared.event.Event.TheVariants.{Move, Retire, Unmount}
use Rattle.nl_types.specs.declared.reply.Answer.TheVariants.{Freed}
use Rattle.nl_types.specs.declared.segment.SegmentState.TheVariants.{Dirty}
use Rattle.nl_types.specs.Plain.Runs.{Run}
use Rattle.nl_types.specs.Blocks.Segments.{clean_info, info_of}
use Rattle.nl_types.specs.Plain.Worlds.{Reply}
use Rattle.nl_vstore.specs.Located.{needed_count, numbers_in}
use Rattle.nl_vstore.specs.Stores.{address_in}
use Rattle.nl_reclaim.specs.Rounds.{IsLeftOut, IsNeeded}
use Rattle.nl_events.specs.CleanedPens.{kept_store}
use Rattle.nl_commit.specs.CleaningEvents.{needed_by}
use Rattle.nl_commit.specs.Layout.{AllowedBetween, Does, IsPen, Layout}
use Rattle.nl_commit.specs.Notes.{allowed_where}
use Rattle.nl_cleaner.specs.Job.{Expiring, JobView, SteppedBy, next_event, steps_left}
use Rattle.nl_cleaner.specs.Plan.{IsPlanned, TakesOldest}

-- ---- the oldest comes next

-- Whatever was replied since a round was planned, and whatever was done on the pen beside it, what comes next
-- is its expiry, or cleans the oldest of the segments that are left.
abbrev pub TheOldestComesNext : Type 0
TheOldestComesNext =
    (planned now : Layout) (job : JobView) → IsPlanned planned job
    → IfSome (next_event job now) (TakesOldest planned job)

-- ---- give-backs

abbrev pub unmount_of : ℕ → Event
unmount_of m = Unmount m

-- Some mounts are given back, or that is refused. Beside readers that is done with one that was lost.
pub record GivesBack (allowed : AllowedBetween) (old new : Layout) : Type 0 where
  pub mounts : List ℕ
  pub replies : List Reply
  pub ran : Run (Does allowed) old (map unmount_of mounts) replies new

-- an event, before which mounts may be given back
pub record DoesWithGiveBacks (allowed : AllowedBetween) (old : Layout) (event : Event) (reply : Reply)
    (new : Layout) : Type 0 where
  pub begun : Layout
  pub backs : GivesBack allowed old begun
  pub does : Does allowed begun event reply new

-- and such a step of a round
pub record SteppedWithGiveBacks (allowed : AllowedBetween) (old : JobView × Layout) (event : Event)
    (reply : Reply) (new : JobView × Layout) : Type 0 where
  pub begun : Layout
  pub backs : GivesBack allowed old.1 begun
  pub step : SteppedBy allowed (old.0, begun) event reply new

-- ---- a segment comes clean

-- each moves up to so many pages out of the segment
abbrev pub AreMoves : (segment limit : ℕ) → List Event → Type 0
AreMoves segment limit events = All (λ e. (now : ℕ) × (e ≡ Move segment limit now)) events

-- the answer is how many numbers had their pages in the segment, and it is clean; or memory was refused,
-- beside readers
abbrev pub ComesClean : (told : Bool) (segment : ℕ) → Layout → Reply → Layout → Type 0
ComesClean told segment old reply new =
    MatchResult reply
    (λ answer. (answer ≡ Freed (length (numbers_in old.store segment)))
    × (info_of new.store.segments.each segment ≡ clean_info))
    (λ e. (e ≡ Memory) × (told ≡ true))

-- Where that many moves are done as the needed numbers of a dirty segment ask for, the segment can be
-- retired, and is clean.
abbrev pub SegmentsComeClean : (told : Bool) → Type 0
SegmentsComeClean told =
    (segment limit : ℕ) (old mid new : Layout) (events : List Event) (replies : List Reply) (reply : Reply)
    → IsPen old → (info_of old.store.segments.each segment).state ≡ Dirty
    → AreMoves segment limit events
    → needed_count old.store (needed_by old.lists) segment ≤ length events * limit
    → Run (DoesWithGiveBacks (allowed_where told)) old events replies mid → All IsOk replies
    → DoesWithGiveBacks (allowed_where told) mid (Retire segment) reply new
    → ComesClean told segment mid reply new

-- ---- nothing dead is left

-- the round takes each segment that may be cleaned
abbrev pub TakesEachDirty : JobView → Layout → Type 0
TakesEachDirty job l =
    (segment : ℕ) → (info_of l.store.segments.each segment).state ≡ Dirty → Contains job.left segment

-- each number in use is needed, or its page stands in a segment that was active or in error
abbrev pub LeavesNothingDead : Layout → Layout → Type 0
LeavesNothingDead old new =
    (v b : ℕ) → address_in new.store v ≡ Some b → IsNeeded (kept_store new) v ⊎ IsLeftOut (kept_store old) b

-- So is it where a round that takes each dirty segment, and is refused nothing, is over.
abbrev pub RoundsLeaveNothingDead : (told : Bool) → Type 0
RoundsLeaveNothingDead told =
    (job end : JobView) (old mid new : Layout) (events : List Event) (replies : List Reply)
    → IsPen old → job.stage ≡ Expiring → TakesEachDirty job old
    → Run (SteppedWithGiveBacks (allowed_where told)) (job, old) events replies (end, mid)
    → All IsOk replies → GivesBack (allowed_where told) mid new → next_event end new ≡ None
    → LeavesNothingDead old new

-- ---- rounds end

-- Each step of a round lowers the number of those that are left.
abbrev pub StepsEndRounds : (told : Bool) → Type 0
StepsEndRounds told =
    (old new : JobView × Layout) (event : Event) (reply : Reply)
    → IsPen old.1 → SteppedBy (allowed_where told) old event reply new
    → steps_left new.0 new.1 < steps_left old.0 old.1

-- A mount that is given back between two steps, or whose give-back is refused, leaves as many.
abbrev pub UnmountsLeaveRounds : (told : Bool) → Type 0
UnmountsLeaveRounds told =
    (old new : Layout) (job : JobView) (m : ℕ) (reply : Reply)
    → IsPen old → Does (allowed_where told) old (Unmount m) reply new
    → steps_left job new ≡ steps_left job old
