-- A round of cleaning, as the pen's store sees it.
use Rattle.std.proofs.Common.{◌≡◌, ℕ, suc, ◌+◌, ◌==◌, Bool, true, false, cond, List, [], ◌∷◌, Some, None, Ok, Err, refl, sym, ap, subst, ◌∙◌, inl, inr, arith}
use Rattle.std.specs.Prelude.{All, Contains, IsOk}
use Rattle.std.proofs.lemmas.Bool.{true≢false}
use Rattle.std.proofs.lemmas.List.Elements.{All-tail}
use Rattle.nl_types.specs.declared.event.Event.{Event}
use Rattle.nl_types.specs.declared.event.Event.TheVariants.{Expire, Move, Retire}
use Rattle.nl_types.specs.declared.reply.Answer.{Answer}
use Rattle.nl_types.specs.Plain.Runs.{Run}
use Rattle.nl_types.specs.Plain.Worlds.{Reply}
use Rattle.nl_types.specs.Plain.NumberLists.{is_one_of}
use Rattle.nl_types.specs.Facts.PartialMaps.{is_one_of-get_or}
use Rattle.nl_vstore.specs.Located.{needed_count}
use Rattle.nl_reclaim.specs.Moves.{KeptStore}
use Rattle.nl_reclaim.specs.Rounds.{IsRoundEvent, AreRoundEvents}
use Rattle.nl_reclaim.specs.Facts.Rounds.{rounds-leave-nothing-dead}
use Rattle.nl_events.specs.CleanedPens.{kept_store}
use Rattle.nl_commit.specs.CleanerViews.{cleaning_event}
use Rattle.nl_commit.specs.CleaningEvents.{needed_by}
use Rattle.nl_commit.specs.Layout.{AllowedBetween, Does, IsPen, Layout}
use Rattle.nl_commit.specs.Notes.{allowed_where}
use Rattle.nl_cleaner.specs.Job.{Expiring, JobView, SteppedBy, job_after_answer, next_by, next_event, job_after_reply, noted_by}
use Rattle.nl_cleaner.specs.declared.job.Stage.{Stage}
use Rattle.nl_cleaner.specs.Laws.{RoundsLeaveNothingDead, SteppedWithGiveBacks}
use Rattle.nl_cleaner.specs.Facts.RoundEvents.{cleaning, move-is, none-some, some-is}
use Rattle.nl_cleaner.proofs.CleanRuns.{IsDone, same-kept, same-needs, stays-kept}

-- ---- one event

-- the segments that are left then
record Cleaned (now period : ℕ) (before : List ℕ) (old : KeptStore) (new : JobView × Layout) : Type 0 where
  left : List ℕ
  job : new.0 ≡ cleaning now period left
  cleans : IsRoundEvent before old left (kept_store new.1)

module _ (allowed : AllowedBetween) (now period segment : ℕ) (rest : List ℕ) (old : Layout)
    (new : JobView × Layout) (answer : Answer) (held : IsPen old) where
  moved : Does allowed old (Move segment 30 now) (Ok answer) new.1
      → new.0 ≡ job_after_answer answer (cleaning now period (segment ∷ rest))
      → Cleaned now period (segment ∷ rest) (kept_store old) new
  moved does is = record {
    left = segment ∷ rest;
    job =
        is
        ∙ ap (λ (a : Answer). job_after_answer a (cleaning now period (segment ∷ rest)))
        does.becomes.1.answer_is;
    cleans =
        inl (
          refl,
          old.lists.table.latest.number + 1,
          now,
          30,
          move-is old new.1 segment 30 now answer held does,
        );
  }

  emptied : Does allowed old (Retire segment) (Ok answer) new.1
      → new.0 ≡ job_after_answer answer (cleaning now period (segment ∷ rest))
      → Cleaned now period (segment ∷ rest) (kept_store old) new
  emptied does is = record {
    left = rest;
    job =
        is
        ∙ ap (λ (a : Answer). job_after_answer a (cleaning now period (segment ∷ rest)))
        does.becomes.emptied.answer_is;
    cleans = inr (
      refl,
      does.becomes.emptied.count,
      record {
        needs = same-needs old new.1 does.becomes.lists;
        reclaimed = does.becomes.emptied.reclaimed;
        store = does.pen.sound.store;
      },
    );
  }

  by-count : (t : Bool) → (needed_count old.store (needed_by old.lists) segment == 0) ≡ t → (event : Event)
      → Some (cleaning_event old segment now) ≡ Some event
      → Does allowed old event (Ok answer) new.1
      → new.0 ≡ job_after_answer answer (cleaning now period (segment ∷ rest))
      → Cleaned now period (segment ∷ rest) (kept_store old) new
  by-count true h event next does is =
      moved-or (ap (λ (b : Bool). cond {A = Event} b (Retire segment) (Move segment 30 now)) h)
    where
      moved-or : cleaning_event old segment now ≡ Retire segment
          → Cleaned now period (segment ∷ rest) (kept_store old) new
      moved-or e =
          emptied (subst (λ (x : Event). Does allowed old x (Ok answer) new.1)
          (some-is (cleaning_event old segment now) event next ∙ e) does)
          is
  by-count false h event next does is =
      moved-or (ap (λ (b : Bool). cond {A = Event} b (Retire segment) (Move segment 30 now)) h)
    where
      moved-or : cleaning_event old segment now ≡ Move segment 30 now
          → Cleaned now period (segment ∷ rest) (kept_store old) new
      moved-or e =
          moved (subst (λ (x : Event). Does allowed old x (Ok answer) new.1)
          (some-is (cleaning_event old segment now) event next ∙ e) does)
          is

one-event : (allowed : AllowedBetween) (now period : ℕ) (left : List ℕ) (old : Layout)
    (new : JobView × Layout) (event : Event) (answer : Answer)
    → IsPen old → SteppedBy allowed (cleaning now period left, old) event (Ok answer) new
    → Cleaned now period left (kept_store old) new
one-event allowed now period [] old new event answer held step = absurd (none-some event step.next)
one-event allowed now period (segment ∷ rest) old new event answer held step =
    by-count allowed now period segment rest old new answer held
    (needed_count old.store (needed_by old.lists) segment == 0) refl event step.next step.does step.job

-- mounts that are given back before it change nothing of that
one-step : (allowed : AllowedBetween) (now period : ℕ) (left : List ℕ) (old : Layout)
    (new : JobView × Layout) (event : Event) (answer : Answer)
    → IsPen old → SteppedWithGiveBacks allowed (cleaning now period left, old) event (Ok answer) new
    → Cleaned now period left (kept_store old) new
one-step allowed now period left old new event answer held stepped =
    let kept = stays-kept allowed old stepped.begun held stepped.backs in
    subst (λ (s : KeptStore). Cleaned now period left s new) kept.same
    (one-event allowed now period left stepped.begun new event answer kept.pen stepped.step)

-- ---- to the end of a round

none-left : (now period : ℕ) (left : List ℕ) (l : Layout) → next_event (cleaning now period left) l ≡ None
    → [] ≡ left
none-left now period [] l h = refl
none-left now period (segment ∷ rest) l h = absurd (none-some (cleaning_event l segment now) (sym h))

-- whatever pen is asked then, nothing is left
all-events : (allowed : AllowedBetween) (now period : ℕ) (left : List ℕ) (old new asked : Layout)
    (job end : JobView) (events : List Event) (replies : List Reply)
    → IsPen old → job ≡ cleaning now period left
    → Run (SteppedWithGiveBacks allowed) (job, old) events replies (end, new)
    → All IsOk replies → next_event end asked ≡ None
    → (n : ℕ) × AreRoundEvents n left (kept_store old) [] (kept_store new)
all-events allowed now period left old new asked job end [] [] held is run oks over =
    let same : end ≡ cleaning now period left = ap (λ (s : JobView × Layout). s.0) run ∙ is in (
      0,
      (
        none-left now period left asked (ap (λ (j : JobView). next_event j asked) (sym same) ∙ over),
        ap (λ (s : JobView × Layout). kept_store s.1) run,
      ),
    )
all-events allowed now period left old new asked job end (e ∷ es) (Ok answer ∷ rs) held is run oks over =
    let first =
    one-step allowed now period left old run.0 e answer held
    (subst (λ (j : JobView). SteppedWithGiveBacks allowed (j, old) e (Ok answer) run.0) is run.1) in
    let rest =
    all-events allowed now period first.left run.0.1 new asked run.0.0 end es rs run.1.step.does.pen first.job
    run.2 (All-tail IsDone (Ok answer) rs oks) over in
    (suc rest.0, (first.left, kept_store run.0.1, first.cleans, rest.1))
all-events allowed now period left old new asked job end (e ∷ es) (Err x ∷ rs) held is run oks over =
    absurd (true≢false (sym (oks 0 (Err x) (omega arith))))
all-events allowed now period left old new asked job end [] (r ∷ rs) held is run oks over = absurd run
all-events allowed now period left old new asked job end (e ∷ es) [] held is run oks over = absurd run

among : (left : List ℕ) (i : ℕ) → Contains left i → is_one_of left i ≡ true
among left i (k, within, is) =
    subst (λ (n : ℕ). is_one_of left n ≡ true) is (is_one_of-get_or left k i within)

-- ---- from the expiry on

expiring-next : (job : JobView) (l : Layout) → job.stage ≡ Expiring
    → next_event job l ≡ Some (Expire job.moment job.period)
expiring-next job l is = ap (λ (s : Stage). next_by s job l) is

expired-job : (job : JobView) (answer : Answer) → job.stage ≡ Expiring
    → job_after_reply job (Ok answer) ≡ cleaning job.moment job.period job.left
expired-job job answer is = ap (λ (s : Stage). noted_by s job (Ok answer)) is

pub rounds-leave-nothing : (told : Bool) → RoundsLeaveNothingDead told
rounds-leave-nothing told job end old mid new [] [] held stage dirty run oks backs over =
    let same : end ≡ job = ap (λ (s : JobView × Layout). s.0) run in
    absurd (none-some (Expire job.moment job.period)
    (sym over ∙ ap (λ (j : JobView). next_event j new) same ∙ expiring-next job new stage))
rounds-leave-nothing told job end old mid new (e ∷ es) (Ok answer ∷ rs) held stage dirty run oks backs over =
    let begun = run.1.begun in
    let kept = stays-kept (allowed_where told) old begun held run.1.backs in
    let step = run.1.step in
    let expire : e ≡ Expire job.moment job.period =
    some-is (Expire job.moment job.period) e (sym (expiring-next job begun stage) ∙ step.next) in
    let does : Does (allowed_where told) begun (Expire job.moment job.period) (Ok answer) run.0.1 =
    subst (λ (x : Event). Does (allowed_where told) begun x (Ok answer) run.0.1) expire step.does in
    let all =
    all-events (allowed_where told) job.moment job.period job.left run.0.1 mid new run.0.0 end es rs does.pen
    (step.job ∙ expired-job job answer stage) run.2 (All-tail IsDone (Ok answer) rs oks) over in
    rounds-leave-nothing-dead all.0 (kept_store old) (kept_store run.0.1)
    (kept_store new) job.left held.sound.store
    (λ i is. among job.left i (dirty i is)) (does.becomes.1 ∙ ap (λ (s : KeptStore). s.store) kept.same)
    (subst (λ (s : KeptStore). AreRoundEvents all.0 job.left (kept_store run.0.1) [] s)
    (sym (same-kept (allowed_where told) mid new backs)) all.1)
rounds-leave-nothing told job end old mid new (e ∷ es) (Err x ∷ rs) held stage dirty run oks backs over =
    absurd (true≢false (sym (oks 0 (Err x) (omega arith))))
rounds-leave-nothing told job end old mid new [] (r ∷ rs) held stage dirty run oks backs over = absurd run
rounds-leave-nothing told job end old mid new (e ∷ es) [] held stage dirty run oks backs over = absurd run
