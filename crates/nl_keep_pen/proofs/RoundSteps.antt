-- A round only tidies, and so does a resize.
use Rattle.std.proofs.Common.{◌≡◌, ◌⊎◌, inl, inr, ◌≤◌, ◌<◌, ℕ, Bool, true, false, List, [], ◌∷◌, Option, Some, None, Ok, Err, refl, sym, ap, subst, true≢false}
use Rattle.std.specs.Prelude.{MatchOption, ◌==◌, if◌then◌else◌}
use Rattle.std.specs.Option.{is_some}
use Rattle.std.proofs.lemmas.Option.{same_Some}
use Rattle.nl_types.specs.declared.error.VolError.{VolError}
use Rattle.nl_types.specs.declared.error.VolError.TheVariants.{Fault, Memory}
use Rattle.nl_types.specs.declared.event.Event.{Event}
use Rattle.nl_types.specs.declared.event.Event.TheVariants.{Expire, Move, Resize, Retire}
use Rattle.nl_types.specs.declared.reply.Answer.{Answer}
use Rattle.nl_types.specs.declared.reply.Answer.TheVariants.{Freed}
use Rattle.nl_types.specs.Plain.Limits.{log_limit}
use Rattle.nl_types.specs.Plain.Worlds.{Reply}
use Rattle.nl_vstore.specs.Located.{needed_count}
use Rattle.nl_commit.specs.CleaningEvents.{needed_by, resized_by}
use Rattle.nl_commit.specs.CleanerViews.{cleaning_event}
use Rattle.nl_commit.specs.Layout.{Becomes, Does, FailsIn, HasRefused, LacksSpaceFor, Layout, MeansWorld, cleaned, unshared}
use Rattle.nl_commit.specs.Rounds.{ends_round}
use Rattle.nl_cleaner.specs.declared.job.Stage.{Stage}
use Rattle.nl_cleaner.specs.declared.job.Stage.TheVariants.{Cleaning, Ended, Expiring}
use Rattle.nl_cleaner.specs.Job.{IsOver, at_stage, first_done, JobView, Stepped, job_after_answer, next_by, next_cleaning, noted_by}
use Rattle.nl_keep.specs.Facts.Tidied.{leads_to_itself}
use Rattle.nl_keep.specs.Lasting.{IsTidying, MinorRemovalsOnlyTidy, OnlyTidies, TidyingEventsOnlyTidy}
use Rattle.nl_keep.specs.MinorOnes.{RemovesMinor}
use Rattle.nl_keep.specs.Volumes.{LeadsTo}
use Rattle.nl_keep_pen.specs.Facts.Volumes.{volume_step}

-- ---- events of a round

either_tidies : (moment : ℕ) (b : Bool) (segment now : ℕ) → now ≤ moment
    → IsTidying moment (if b then Retire segment else Move segment log_limit now)
either_tidies moment true segment now early = tt
either_tidies moment false segment now early = early

of_some : (moment : ℕ) (e event : Event) → Some e ≡ Some event → IsTidying moment e → IsTidying moment event
of_some moment e event is of = subst (IsTidying moment) (same_Some e event is) of

next_cleans : (moment : ℕ) (left : List ℕ) (now : ℕ) (l : Layout) (event : Event) → now ≤ moment
    → next_cleaning left now l ≡ Some event → IsTidying moment event
next_cleans moment [] now l event early is = absurd (true≢false (sym (ap is_some is)))
next_cleans moment (segment ∷ rest) now l event early is =
    of_some moment (cleaning_event l segment now) event is
    (either_tidies moment (needed_count l.store (needed_by l.lists) segment == 0) segment now early)

next_is : (moment : ℕ) (stage : Stage) (job : JobView) (l : Layout) (event : Event) → job.moment < job.period
    → job.moment ≤ moment → next_by stage job l ≡ Some event → IsTidying moment event
next_is moment Expiring job l event less early is =
    of_some moment (Expire job.moment job.period) event is less
next_is moment Cleaning job l event less early is = next_cleans moment job.left job.moment l event early is
next_is moment Ended job l event less early is = absurd (true≢false (sym (ap is_some is)))

-- ---- what they do

-- nothing was left to do
over_tidies : (moment : ℕ) (job after : JobView) (old new : Layout) → IsOver (job, old) (after, new)
    → LeadsTo (OnlyTidies moment) (MeansWorld old) (MeansWorld new)
over_tidies moment job after old new over =
    subst (λ (l : Layout). LeadsTo (OnlyTidies moment) (MeansWorld old) (MeansWorld l))
    (sym (ap (λ (p : JobView × Layout). p.1) over.unchanged)) (leads_to_itself moment (MeansWorld old))

step_tidies : TidyingEventsOnlyTidy → (moment : ℕ) (event : Event) (reply : Reply) (old new : Layout)
    → IsTidying moment event → Does unshared old event reply new
    → LeadsTo (OnlyTidies moment) (MeansWorld old) (MeansWorld new)
step_tidies tidy moment event reply old new of does w means =
    let step = does.follows w means in (
      step.after,
      step.means,
      tidy moment event reply w step.after means.world of (
        cleaned old event,
        volume_step (LacksSpaceFor old) (FailsIn old new) (cleaned old event) w event reply step.after step.step,
      ),
    )

-- a step of a round, where there is one
pub turn_tidies : TidyingEventsOnlyTidy → (moment : ℕ) (job after : JobView) (old new : Layout)
    (o : Option Reply) → job.moment < job.period → job.moment ≤ moment
    → MatchOption o (IsOver (job, old) (after, new))
    (λ reply. (event : Event) × Stepped (job, old) event reply (after, new))
    → LeadsTo (OnlyTidies moment) (MeansWorld old) (MeansWorld new)
turn_tidies tidy moment job after old new None less early over = over_tidies moment job after old new over
turn_tidies tidy moment job after old new (Some reply) less early step =
    step_tidies tidy moment step.0 reply old new
    (next_is moment job.stage job old step.0 less early step.1.next) step.1.does

pub resize_tidies : TidyingEventsOnlyTidy → (moment segments : ℕ) (reply : Reply) (old new : Layout)
    → Does unshared old (Resize segments) reply new
    → LeadsTo (OnlyTidies moment) (MeansWorld old) (MeansWorld new)
resize_tidies tidy moment segments reply old new does =
    step_tidies tidy moment (Resize segments) reply old new tt does

-- the removal of minor ones
pub removal_tidies : MinorRemovalsOnlyTidy → (moment : ℕ) (old new : Layout)
    → LeadsTo RemovesMinor (MeansWorld old) (MeansWorld new)
    → LeadsTo (OnlyTidies moment) (MeansWorld old) (MeansWorld new)
removal_tidies law moment old new removes w means =
    let gone = removes w means in
    (gone.0, gone.1, law moment w gone.0 means.world gone.2)

-- ---- the moment and the period stay

abbrev pub SameTimes : (job after : JobView) → Type 0
SameTimes job after = (after.moment ≡ job.moment) × (after.period ≡ job.period)

either_same : (b : Bool) (job x y : JobView) → SameTimes job x → SameTimes job y
    → SameTimes job (if b then x else y)
either_same true job x y first second = first
either_same false job x y first second = second

answer_same : (answer : Answer) (job : JobView) → SameTimes job (job_after_answer answer job)
answer_same (Freed count) job = (refl, refl)
answer_same _ job = (refl, refl)

noted_same : (stage : Stage) (job : JobView) (reply : Reply) → SameTimes job (noted_by stage job reply)
noted_same Expiring job (Ok answer) = (refl, refl)
noted_same Expiring job (Err e) = (refl, refl)
noted_same Cleaning job (Ok answer) = answer_same answer job
noted_same Cleaning job (Err e) =
    either_same (ends_round e) job (at_stage Ended job) (first_done job) (refl, refl) (refl, refl)
noted_same Ended job reply = (refl, refl)

pub turn_same : (job after : JobView) (old new : Layout) (o : Option Reply)
    → MatchOption o (IsOver (job, old) (after, new))
    (λ reply. (event : Event) × Stepped (job, old) event reply (after, new)) → SameTimes job after
turn_same job after old new None over =
    let same : after ≡ job = ap (λ (p : JobView × Layout). p.0) over.unchanged in
    (ap (λ (j : JobView). j.moment) same, ap (λ (j : JobView). j.period) same)
turn_same job after old new (Some reply) step =
    subst (SameTimes job) (sym step.1.job) (noted_same job.stage job reply)

-- ---- why no segments are added

pub resize_refused : (segments : ℕ) (e : VolError) (reply : Reply) (old new : Layout) → reply ≡ Err e
    → Does unshared old (Resize segments) reply new
    → (e ≡ Fault) ⊎ (e ≡ Memory) ⊎ (resized_by old.store segments ≡ Err e)
resize_refused segments e reply old new is does =
    by e (subst (λ (r : Reply). Becomes old (Resize segments) r new) is does.becomes)
  where
    by : (x : VolError) → HasRefused (Resize segments) x old new
        → (x ≡ Fault) ⊎ (x ≡ Memory) ⊎ (resized_by old.store segments ≡ Err x)
    by Fault refused = inl refl
    by Memory refused = inr (inl refl)
    by _ refused = inr (inr refused.1.1)
