-- Which segments a round of cleaning takes, and which of them comes next.
use Rattle.std.specs.Prelude.{◌≡◌, ◌⊎◌, ◌<◌, ◌≤◌, ◌-◌, ℕ, Bool, true, false, ◌&&◌, nat_le, nat_lt, Option, None, Some, if◌then◌else◌, All, AllPairs, Contains, List, [], length}
use Rattle.std.specs.List.{fold}
use Rattle.nl_types.specs.declared.event.Event.{Event}
use Rattle.nl_types.specs.declared.event.Event.TheVariants.{Expire, Move, Retire}
use Rattle.nl_types.specs.declared.segment.SegmentInfo.{SegmentInfo}
use Rattle.nl_types.specs.declared.segment.SegmentState.{SegmentState}
use Rattle.nl_types.specs.declared.segment.SegmentState.TheVariants.{Clean, Dirty, Active, Error}
use Rattle.nl_types.specs.Blocks.Segments.{clean_segments, info_of}
use Rattle.nl_types.specs.Plain.Worlds.{Reply}
use Rattle.nl_vstore.specs.Located.{payload_count_in}
use Rattle.nl_protect.specs.declared.amount.Amount.{Amount}
use Rattle.nl_protect.specs.declared.config.Config.{Config}
use Rattle.nl_protect.specs.Configuration.{amount_of}
use Rattle.nl_commit.specs.CleanerViews.{needed_after}
use Rattle.nl_commit.specs.Layout.{Layout}
use Rattle.nl_commit.specs.Volume.{boundary_in}
use Rattle.nl_cleaner.specs.declared.choice.Candidate.{Candidate}
use Rattle.nl_cleaner.specs.Job.{JobView, Expiring, job_after_reply}

-- ---- what a configuration asks of a pen

abbrev pub clean_count : Layout → ℕ
clean_count l = length (clean_segments l.store.segments)

-- so many segments, or a share of them
abbrev pub segments_by : Amount → Layout → ℕ
segments_by amount l = amount_of amount (length l.store.segments.each)

-- so many blocks of a segment, or a share of them
abbrev pub blocks_by : Amount → Layout → ℕ
blocks_by amount l = amount_of amount l.store.segments.blocks

-- enough segments are clean
abbrev pub is_full : Layout → Config → Bool
is_full l config = nat_le (segments_by config.max_clean_segments l) (clean_count l)

-- fewer segments are clean than there are to be
abbrev pub is_urgent : Layout → Config → Bool
is_urgent l config = nat_lt (clean_count l) (segments_by config.min_clean_segments l)

-- how many segments are taken at most
abbrev pub most_taken : Layout → Config → ℕ
most_taken l config = if is_urgent l config then config.mc_nsegments_per_clean else config.nsegments_per_clean

-- how many blocks of a segment are to be freed at least
abbrev pub least_freed : Layout → Config → ℕ
least_freed l config =
    if is_urgent l config then blocks_by config.mc_min_reclaimable_blocks l
    else blocks_by config.min_reclaimable_blocks l

-- ---- segments

-- how many payload blocks of a segment are not needed once the plain checkpoints below a number are gone
abbrev pub reclaimable : Layout → (below segment : ℕ) → ℕ
reclaimable l below segment = payload_count_in l.store segment - needed_after l below segment

-- it may be cleaned, and enough of its blocks are freed by that
pub record Qualifies (l : Layout) (below least segment : ℕ) : Type 0 where
  pub dirty : (info_of l.store.segments.each segment).state ≡ Dirty
  pub enough : least ≤ reclaimable l below segment

abbrev pub stamp_in : Layout → ℕ → ℕ
stamp_in l segment = (info_of l.store.segments.each segment).stamp

abbrev pub is_dirty : SegmentState → Bool
is_dirty Clean = false
is_dirty Dirty = true
is_dirty Active = false
is_dirty Error = false

-- what is known of the segment, where it is dirty and so many blocks suffice
abbrev pub candidate_by : SegmentInfo → (least segment reclaimable : ℕ) → Option Candidate
candidate_by info least segment reclaimable =
    if is_dirty info.state && nat_le least reclaimable
    then Some (record { stamp = info.stamp; segment = segment }) else None

-- the segment, where it qualifies
abbrev pub candidate_in : Layout → (below least segment : ℕ) → Option Candidate
candidate_in l below least segment =
    candidate_by (info_of l.store.segments.each segment) least segment (reclaimable l below segment)

-- its last log is older, or it is as old and has the lower number
abbrev pub IsOlder : Layout → ℕ → ℕ → Type 0
IsOlder l a b = (stamp_in l a < stamp_in l b) ⊎ ((stamp_in l a ≡ stamp_in l b) × (a < b))

-- ---- a round

-- the first so many of the segments that qualify, in their order
pub record AreVictims (l : Layout) (below least most : ℕ) (victims : List ℕ) : Type 0 where
  pub chosen : All (Qualifies l below least) victims
  pub in_order : AllPairs (IsOlder l) victims
  pub few : length victims ≤ most
  -- where one that qualifies is left out, so many are taken, and all of them come before it
  pub rest : (segment : ℕ) → Qualifies l below least segment
      → Contains victims segment ⊎ ((length victims ≡ most) × All (λ v. IsOlder l v segment) victims)

-- Where enough segments are clean none is taken, and else the oldest of those that qualify. What the expiry
-- of this moment will remove is taken as gone.
pub record AreTaken (l : Layout) (config : Config) (now : ℕ) (segments : List ℕ) : Type 0 where
  pub none : segments_by config.max_clean_segments l ≤ clean_count l → segments ≡ []
  pub some : clean_count l < segments_by config.max_clean_segments l
      → AreVictims l (boundary_in l.lists.table now config.protection_period) (least_freed l config)
      (most_taken l config) segments

-- the round begins with that expiry, and then it cleans these
pub record IsPlan (l : Layout) (config : Config) (now : ℕ) (job : JobView) : Type 0 where
  pub stage : job.stage ≡ Expiring
  pub moment : job.moment ≡ now
  pub period : job.period ≡ config.protection_period
  pub taken : AreTaken l config now job.left

-- ---- what comes next

-- the round was planned on this layout, and is what replies made of it since
pub record IsPlanned (planned : Layout) (job : JobView) : Type 0 where
  pub config : Config
  pub now : ℕ
  pub begun : JobView
  pub replies : List Reply
  pub plan : IsPlan planned config now begun
  pub since : job ≡ fold job_after_reply begun replies

-- it moves pages out of the segment, or retires it
abbrev pub Cleans : ℕ → Event → Type 0
Cleans segment (Move s limit now) = s ≡ segment
Cleans segment (Retire s) = s ≡ segment
Cleans segment event = ⊥

-- it cleans one of these segments, and all others are younger
pub record CleansOldest (l : Layout) (left : List ℕ) (event : Event) : Type 0 where
  pub segment : ℕ
  pub cleans : Cleans segment event
  pub among : Contains left segment
  pub others : All (λ s. (s ≡ segment) ⊎ IsOlder l segment s) left

-- it is the expiry, or cleans the oldest of the segments that are left, by the logs that the plan saw
abbrev pub TakesOldest : Layout → JobView → Event → Type 0
TakesOldest planned job event =
    (event ≡ Expire job.moment job.period) ⊎ CleansOldest planned job.left event
