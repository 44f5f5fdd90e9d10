-- A round of cleaning, event by event.
use Rattle.std.specs.Prelude.{◌≡◌, ◌+◌, ◌*◌, ℕ, if◌then◌else◌, List, [], ◌∷◌, length, drop, Option, None, Some, Ok, Err}
use Rattle.nl_types.specs.declared.event.Event.{Event}
use Rattle.nl_types.specs.declared.event.Event.TheVariants.{Expire}
use Rattle.nl_types.specs.declared.reply.Answer.{Answer}
use Rattle.nl_types.specs.declared.reply.Answer.TheVariants.{Freed}
use Rattle.nl_types.specs.Plain.Worlds.{Reply}
use Rattle.nl_commit.specs.Rounds.{ends_round}
use Rattle.nl_vstore.specs.Located.{needed_count}
use Rattle.nl_commit.specs.CleanerViews.{cleaning_event}
use Rattle.nl_commit.specs.CleaningEvents.{needed_by}
use Rattle.nl_commit.specs.Layout.{AllowedBetween, Does, Layout, unshared}
use Rattle.nl_cleaner.specs.declared.job.Stage.{Stage}
pub use Rattle.nl_cleaner.specs.declared.job.Stage.TheVariants.{Cleaning, Ended, Expiring}

-- what is left of a round
pub record JobView : Type 0 where
  pub stage : Stage
  -- its moment, and the protection period
  pub moment : ℕ
  pub period : ℕ
  -- the segments that aren't done, in their order
  pub left : List ℕ

-- ---- the next event

abbrev pub next_cleaning : (left : List ℕ) → (now : ℕ) → Layout → Option Event
next_cleaning [] now l = None
next_cleaning (segment ∷ rest) now l = Some (cleaning_event l segment now)

abbrev pub next_by : Stage → JobView → Layout → Option Event
next_by Expiring job l = Some (Expire job.moment job.period)
next_by Cleaning job l = next_cleaning job.left job.moment l
next_by Ended job l = None

-- first the expiry, and then what cleans the first segment that isn't done
abbrev pub next_event : JobView → Layout → Option Event
next_event job l = next_by job.stage job l

-- ---- what a reply makes of a round

abbrev pub at_stage : Stage → JobView → JobView
at_stage stage job = record job { stage = stage }

-- the first segment is done
abbrev pub first_done : JobView → JobView
first_done job = record job { left = drop 1 job.left }

abbrev pub job_after_answer : Answer → JobView → JobView
job_after_answer (Freed count) job = first_done job
job_after_answer answer job = job

abbrev pub noted_by : Stage → JobView → Reply → JobView
noted_by Expiring job (Ok answer) = at_stage Cleaning job
noted_by Expiring job (Err e) = at_stage Ended job
noted_by Cleaning job (Ok answer) = job_after_answer answer job
noted_by Cleaning job (Err e) = if ends_round e then at_stage Ended job else first_done job
noted_by Ended job reply = job

-- A segment is done when it is retired, or when it can't be cleaned. Want of space or of memory and faults
-- end the round.
abbrev pub job_after_reply : JobView → Reply → JobView
job_after_reply job reply = noted_by job.stage job reply

-- ---- steps

-- the next event was done or refused, and noted
pub record SteppedBy (allowed : AllowedBetween) (old : JobView × Layout) (event : Event) (reply : Reply)
    (new : JobView × Layout) : Type 0 where
  pub next : next_event old.0 old.1 ≡ Some event
  pub does : Does allowed old.1 event reply new.1
  pub job : new.0 ≡ job_after_reply old.0 reply

-- so on a pen alone
abbrev pub Stepped : JobView × Layout → Event → Reply → JobView × Layout → Type 0
Stepped old event reply new = SteppedBy unshared old event reply new

-- nothing is left of the round
pub record IsOver (old new : JobView × Layout) : Type 0 where
  pub next : next_event old.0 old.1 ≡ None
  pub unchanged : new ≡ old

-- ---- how many steps are left

-- the most steps that a round has for a segment: a move for each of its 2,048 blocks, and its retirement
abbrev pub segment_steps : ℕ
segment_steps = 2049

-- One for each segment and one for each of its needed numbers, since a move that is done takes one out at
-- least. A segment that isn't begun counts as full.
abbrev pub cleaning_left : List ℕ → Layout → ℕ
cleaning_left [] l = 0
cleaning_left (segment ∷ rest) l =
    1 + needed_count l.store (needed_by l.lists) segment + length rest * segment_steps

abbrev pub left_by : Stage → JobView → Layout → ℕ
left_by Expiring job l = 1 + length job.left * segment_steps
left_by Cleaning job l = cleaning_left job.left l
left_by Ended job l = 0

-- no more than these: each step lowers the number
abbrev pub steps_left : JobView → Layout → ℕ
steps_left job l = left_by job.stage job l
