-- Each step of a round leaves fewer.
use Rattle.std.proofs.Common.{◌≡◌, ◌≢◌, ℕ, zero, suc, ◌+◌, ◌*◌, ◌-◌, ◌<◌, ◌≤◌, ◌==◌, Bool, true, false, cond, List, [], ◌∷◌, length, Option, Some, None, Ok, Err, refl, sym, ap, subst, ◌∙◌, true≢false, arith}
use Rattle.std.specs.Prelude.{IsOk, slice_get}
use Rattle.std.proofs.lemmas.List.{length-drop}
use Rattle.std.proofs.lemmas.Bool.{eq-eqb}
use Rattle.std.proofs.lemmas.Option.{get_or_from_slice_get}
use Rattle.nl_types.specs.declared.error.VolError.{VolError}
use Rattle.nl_types.specs.declared.error.VolError.TheVariants.{Memory}
use Rattle.nl_types.specs.declared.event.Event.{Event}
use Rattle.nl_types.specs.declared.event.Event.TheVariants.{Move, Retire}
use Rattle.nl_types.specs.declared.reply.Answer.{Answer}
use Rattle.nl_types.specs.declared.segment.SegmentInfo.{SegmentInfo}
use Rattle.nl_types.specs.declared.segment.SegmentState.TheVariants.{Active, Clean, Dirty, Error}
use Rattle.nl_types.specs.Blocks.Segments.{IsClosed, Segments, clean_info, is_closed}
use Rattle.nl_types.specs.Plain.Worlds.{Reply}
use Rattle.nl_vstore.specs.Located.{needed_at, needed_count, onto, picked}
use Rattle.nl_reclaim.specs.Cleaning.{judged_segment, judged_by, judged_info}
use Rattle.nl_reclaim.specs.Moves.{needed_now}
use Rattle.nl_reclaim.specs.Facts.Moves.{move-takes-first}
use Rattle.nl_events.specs.CleanedPens.{kept_store}
use Rattle.nl_commit.specs.CleanerViews.{cleaning_event}
use Rattle.nl_commit.specs.CleaningEvents.{needed_by}
use Rattle.nl_commit.specs.Layout.{AllowedBetween, Does, IsPen, Layout, layout_of}
use Rattle.nl_commit.specs.Volume.{without_mount}
use Rattle.nl_commit.specs.Rounds.{RoundsEnd, ends_round}
use Rattle.nl_cleaner.specs.Job.{Cleaning, Ended, Expiring, JobView, SteppedBy, job_after_answer, at_stage, cleaning_left, first_done, left_by, next_by, next_cleaning, next_event, job_after_reply, noted_by, steps_left}
use Rattle.nl_cleaner.specs.declared.job.Stage.{Stage}
use Rattle.nl_cleaner.specs.Laws.{StepsEndRounds, UnmountsLeaveRounds}
use Rattle.nl_cleaner.specs.Rounds.{cleaning_habits}
use Rattle.nl_cleaner.specs.Facts.RoundEvents.{cleaning, move-is, none-some, some-is}

-- how many numbers are needed whose pages stand in the segment
abbrev needed_of : Layout → ℕ → ℕ
needed_of l segment = needed_count l.store (needed_by l.lists) segment

-- ---- no segment has more of them than blocks

-- so many blocks have no more among them
pub picked-few : (f : ℕ → Option ℕ) (b n : ℕ) → length (picked f b n) ≤ n
picked-few f b zero = omega arith
picked-few f b (suc n) = by (f b) (picked-few f (suc b) n)
  where
    by : (o : Option ℕ) → length (picked f (suc b) n) ≤ n → length (onto o (picked f (suc b) n)) ≤ suc n
    by None few = omega (arith, few)
    by (Some v) few = omega (arith, few)

needed-few : (l : Layout) (segment : ℕ) → IsPen l → needed_of l segment ≤ 2048
needed-few l segment held =
    let few =
    picked-few (needed_at l.store (needed_by l.lists))
    (segment * l.store.segments.blocks) l.store.segments.blocks in
    omega (arith, few, held.sound.store.limits.geometry.most_blocks)

cleaning-few : (left : List ℕ) (l : Layout) → IsPen l → cleaning_left left l ≤ length left * 2049
cleaning-few [] l held = omega arith
cleaning-few (segment ∷ rest) l held = omega (arith, needed-few l segment held)

-- ---- a move that is done takes one of them out

-- a segment that may be cleaned takes no more logs
closed-by-state : (i : SegmentInfo) → IsOk (judged_info (Some i)) → is_closed i.state ≡ true
closed-by-state i = elim i.state as (λ s. IsOk (judged_by s i) → is_closed s ≡ true) [
  | Clean ↦ λ h. absurd (true≢false (sym h))
  | Dirty ↦ λ _. refl
  | Active ↦ λ h. absurd (true≢false (sym h))
  | Error ↦ λ h. absurd (true≢false (sym h))
]

closed : (s : Segments) (segment : ℕ) → IsOk (judged_segment s segment) → IsClosed s segment
closed s segment ok = by (slice_get s.each segment) refl ok
  where
    by : (o : Option SegmentInfo) → slice_get s.each segment ≡ o → IsOk (judged_info o) → IsClosed s segment
    by None is h = absurd (true≢false (sym h))
    by (Some i) is h =
        ap (λ (x : SegmentInfo). is_closed x.state) (get_or_from_slice_get s.each segment i clean_info is)
        ∙ closed-by-state i h

after-move : {allowed : AllowedBetween} (old new : Layout) (segment now : ℕ) (answer : Answer) → IsPen old
    → Does allowed old (Move segment 30 now) (Ok answer) new
    → needed_of new segment ≡ needed_of old segment - 30
after-move old new segment now answer held does =
    let first =
    move-takes-first segment (old.lists.table.latest.number + 1) now 30 (kept_store old) (kept_store new)
    held.sound.store (closed old.store.segments segment does.becomes.1.moved.judged)
    (move-is old new segment 30 now answer held does) in
    ap (λ (vs : List ℕ). length vs) first.needed ∙ length-drop 30 (needed_now (kept_store old) segment)

-- ---- a step at the first segment that is left

abbrev Fewer : JobView → Layout → ℕ → Type 0
Fewer job l n = steps_left job l < n

module _ (allowed : AllowedBetween) (now period segment : ℕ) (rest : List ℕ) (old new : Layout)
    (held : IsPen old) where
  abbrev here : JobView
  here = cleaning now period (segment ∷ rest)

  next-segment : IsPen new → Fewer (cleaning now period rest) new (cleaning_left (segment ∷ rest) old)
  next-segment still = omega (arith, cleaning-few rest new still)

  refused : (event : Event) (e : VolError) (job : JobView) → Does allowed old event (Err e) new
      → job ≡ noted_by Cleaning here (Err e)
      → Fewer job new (cleaning_left (segment ∷ rest) old)
  refused event e job does is = by (ends_round e) refl
    where
      ended : Fewer (at_stage Ended here) new (cleaning_left (segment ∷ rest) old)
      ended = omega arith

      by : (b : Bool) → ends_round e ≡ b → Fewer job new (cleaning_left (segment ∷ rest) old)
      by true h = subst (λ (j : JobView). Fewer j new (cleaning_left (segment ∷ rest) old))
          (sym (is ∙ ap (λ (b : Bool). cond {A = JobView} b (at_stage Ended here) (first_done here)) h)) ended
      by false h = subst (λ (j : JobView). Fewer j new (cleaning_left (segment ∷ rest) old))
          (sym (is ∙ ap (λ (b : Bool). cond {A = JobView} b (at_stage Ended here) (first_done here)) h))
          (next-segment does.pen)

  moved : (answer : Answer) (job : JobView) → needed_of old segment ≢ 0
      → Does allowed old (Move segment 30 now) (Ok answer) new
      → job ≡ job_after_answer answer here → Fewer job new (cleaning_left (segment ∷ rest) old)
  moved answer job some does is =
      let same : job ≡ here = is ∙ ap (λ (a : Answer). job_after_answer a here) does.becomes.1.answer_is in
      let fewer : needed_of new segment ≡ needed_of old segment - 30 =
      after-move old new segment now answer held does in
      let there : Fewer here new (cleaning_left (segment ∷ rest) old) = omega (arith, fewer, some) in
      subst (λ (j : JobView). Fewer j new (cleaning_left (segment ∷ rest) old)) (sym same) there

  retired : (answer : Answer) (job : JobView) → Does allowed old (Retire segment) (Ok answer) new
      → job ≡ job_after_answer answer here → Fewer job new (cleaning_left (segment ∷ rest) old)
  retired answer job does is =
      let same : job ≡ cleaning now period rest =
      is ∙ ap (λ (a : Answer). job_after_answer a here) does.becomes.emptied.answer_is in
      subst (λ (j : JobView). Fewer j new (cleaning_left (segment ∷ rest) old)) (sym same)
      (next-segment does.pen)

  done : (event : Event) (answer : Answer) (job : JobView) → cleaning_event old segment now ≡ event
      → Does allowed old event (Ok answer) new
      → job ≡ job_after_answer answer here → Fewer job new (cleaning_left (segment ∷ rest) old)
  done event answer job next does is = by (needed_of old segment == 0) refl
    where
      by : (t : Bool) → (needed_of old segment == 0) ≡ t → Fewer job new (cleaning_left (segment ∷ rest) old)
      by true none =
          let retires : event ≡ Retire segment =
          sym next ∙ ap (λ (b : Bool). cond {A = Event} b (Retire segment) (Move segment 30 now)) none in
          retired answer job (subst (λ (x : Event). Does allowed old x (Ok answer) new) retires does) is
      by false some =
          let moves : event ≡ Move segment 30 now =
          sym next ∙ ap (λ (b : Bool). cond {A = Event} b (Retire segment) (Move segment 30 now)) some in
          moved answer job (λ zero-is. true≢false (sym (eq-eqb (needed_of old segment) 0 zero-is) ∙ some))
          (subst (λ (x : Event). Does allowed old x (Ok answer) new) moves does) is

at-segments : {allowed : AllowedBetween} (now period : ℕ) (left : List ℕ) (old new : Layout) (event : Event)
    (reply : Reply)
    (job : JobView) → IsPen old → next_cleaning left now old ≡ Some event → Does allowed old event reply new
    → job ≡ noted_by Cleaning (cleaning now period left) reply → Fewer job new (cleaning_left left old)
at-segments now period [] old new event reply job held next does is = absurd (none-some event next)
at-segments now period (segment ∷ rest) old new event (Ok answer) job held next does is =
    done _ now period segment rest old new held event answer job
    (sym (some-is (cleaning_event old segment now) event next)) does is
at-segments now period (segment ∷ rest) old new event (Err e) job held next does is =
    refused _ now period segment rest old new held event e job does is

-- ---- a step of any stage

expiring : (before job : JobView) (new : Layout) (reply : Reply) → IsPen new
    → job ≡ noted_by Expiring before reply
    → Fewer job new (left_by Expiring before new)
expiring before job new (Ok answer) still is =
    let there : Fewer (at_stage Cleaning before) new (left_by Expiring before new) =
    omega (arith, cleaning-few before.left new still) in
    subst (λ (j : JobView). Fewer j new (left_by Expiring before new)) (sym is) there
expiring before job new (Err e) still is =
    let there : Fewer (at_stage Ended before) new (left_by Expiring before new) = omega arith in
    subst (λ (j : JobView). Fewer j new (left_by Expiring before new)) (sym is) there

by-stage : {allowed : AllowedBetween} (stage : Stage) (before job : JobView) (old new : Layout)
    (event : Event) (reply : Reply)
    → before.stage ≡ stage → IsPen old → next_by stage before old ≡ Some event
    → Does allowed old event reply new → job ≡ noted_by stage before reply
    → Fewer job new (left_by stage before old)
by-stage Expiring before job old new event reply at held next does is =
    expiring before job new reply does.pen is
by-stage Cleaning before job old new event reply at held next does is =
    let same : before ≡ cleaning before.moment before.period before.left =
    ap (λ (s : Stage). at_stage s before) at in
    at-segments before.moment before.period before.left old new event reply job held next does
    (is ∙ ap (λ (j : JobView). noted_by Cleaning j reply) same)
by-stage Ended before job old new event reply at held next does is = absurd (none-some event next)

pub each-fewer : {allowed : AllowedBetween} (old new : JobView × Layout) (event : Event) (reply : Reply)
    → IsPen old.1
    → next_event old.0 old.1 ≡ Some event → Does allowed old.1 event reply new.1
    → new.0 ≡ job_after_reply old.0 reply
    → steps_left new.0 new.1 < steps_left old.0 old.1
each-fewer old new event reply held next does is =
    by-stage old.0.stage old.0 new.0 old.1 new.1 event reply refl held next does is

pub fewer-left : {allowed : AllowedBetween} (old new : JobView × Layout) (event : Event) (reply : Reply)
    → IsPen old.1 → SteppedBy allowed old event reply new
    → steps_left new.0 new.1 < steps_left old.0 old.1
fewer-left old new event reply held step = each-fewer old new event reply held step.next step.does step.job

pub steps-end-rounds : (told : Bool) → StepsEndRounds told
steps-end-rounds told old new event reply held step = fewer-left old new event reply held step

-- ---- mounts that are given back

-- mounts need no number
given-back : (stage : Stage) (job : JobView) (m : ℕ) (l : Layout)
    → left_by stage job (layout_of (without_mount m l.lists) l.store) ≡ left_by stage job l
given-back Expiring job m l = refl
given-back Cleaning job m l = by job.left
  where
    by : (left : List ℕ)
        → cleaning_left left (layout_of (without_mount m l.lists) l.store) ≡ cleaning_left left l
    by [] = refl
    by (segment ∷ rest) = refl
given-back Ended job m l = refl

pub unmounts-leave-rounds : (told : Bool) → UnmountsLeaveRounds told
unmounts-leave-rounds told old new job m (Ok answer) held does =
    ap (λ (l : Layout). steps_left job l) does.becomes ∙ given-back job.stage job m old
unmounts-leave-rounds told old new job m (Err e) held does = ap (λ (l : Layout). steps_left job l) does.becomes

-- ---- rounds as a shared volume knows them

-- a refusal for want of memory ends a round that goes on
memory-ends : (stage : Stage) (job : JobView) (l : Layout) (event : Event) → next_by stage job l ≡ Some event
    → steps_left (noted_by stage job (Err Memory)) l < left_by stage job l
memory-ends Expiring job l event next = omega arith
memory-ends Cleaning job l event next = by job.left next
  where
    by : (left : List ℕ) → next_cleaning left job.moment l ≡ Some event → 0 < cleaning_left left l
    by [] none = absurd (none-some event none)
    by (segment ∷ rest) some = omega arith
memory-ends Ended job l event next = absurd (none-some event next)

pub rounds-end : RoundsEnd cleaning_habits
rounds-end = record {
  steps = λ old new job event reply pen next does.
      each-fewer (job, old) (job_after_reply job reply, new) event reply pen next does refl;
  refusals = λ pen job event next. memory-ends job.stage job pen event next;
  unmounts = λ old new job m reply pen does. unmounts-leave-rounds true old new job m reply pen does;
}
