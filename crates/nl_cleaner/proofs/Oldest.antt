-- Which segment a round cleans next.
use Rattle.std.proofs.Common.{◌≡◌, ◌⊎◌, ℕ, zero, suc, ◌==◌, Bool, true, false, cond, List, [], ◌∷◌, drop, Option, Some, None, Ok, Err, inl, inr, refl, sym, subst, arith}
use Rattle.std.specs.Prelude.{All, AllPairs, IfSome}
use Rattle.std.specs.List.{fold}
use Rattle.std.proofs.lemmas.Bool.{cases_lt}
use Rattle.nl_types.specs.declared.event.Event.{Event}
use Rattle.nl_types.specs.declared.event.Event.TheVariants.{Expire, Move, Retire}
use Rattle.nl_types.specs.declared.reply.Answer.{Answer}
use Rattle.nl_types.specs.declared.reply.Answer.TheVariants.{Freed}
use Rattle.nl_types.specs.Plain.Worlds.{Reply}
use Rattle.nl_vstore.specs.Located.{needed_count}
use Rattle.nl_protect.specs.declared.config.Config.{Config}
use Rattle.nl_commit.specs.Rounds.{ends_round}
use Rattle.nl_commit.specs.CleanerViews.{cleaning_event}
use Rattle.nl_commit.specs.CleaningEvents.{needed_by}
use Rattle.nl_commit.specs.Layout.{Layout}
use Rattle.nl_cleaner.specs.declared.job.Stage.{Stage}
use Rattle.nl_cleaner.specs.Job.{Cleaning, Ended, Expiring, JobView, job_after_answer, at_stage, first_done, next_by, next_cleaning, next_event, job_after_reply, noted_by}
use Rattle.nl_cleaner.specs.Laws.{TheOldestComesNext}
use Rattle.nl_cleaner.specs.Plan.{AreTaken, Cleans, CleansOldest, IsOlder, IsPlanned, TakesOldest, clean_count, segments_by}
use Rattle.nl_cleaner.specs.Facts.RoundEvents.{none-some, some-is}

module _ (planned : Layout) where
  -- the segments that are left are in the order of the plan
  abbrev InOrder : List ℕ → Type 0
  InOrder left = AllPairs (IsOlder planned) left

  none-in-order : InOrder []
  none-in-order i j d lower within = absurd (omega arith)

  rest-in-order : (left : List ℕ) → InOrder left → InOrder (drop 1 left)
  rest-in-order [] before = before
  rest-in-order (segment ∷ rest) before = λ i j d lower within.
      before (suc i) (suc j) d (omega arith) (omega arith)

  taken-in-order : (config : Config) (now : ℕ) (left : List ℕ) → AreTaken planned config now left
      → InOrder left
  taken-in-order config now left taken =
      elim (cases_lt (clean_count planned) (segments_by config.max_clean_segments planned)) [
        | inl few ↦ (taken.some few).in_order
        | inr enough ↦ subst InOrder (sym (taken.none enough)) none-in-order
      ]

  -- ---- a reply keeps the order

  answered-in-order : (answer : Answer) (job : JobView) → InOrder job.left
      → InOrder (job_after_answer answer job).left
  answered-in-order (Freed count) job before = rest-in-order job.left before
  answered-in-order answer job before = before

  refused-in-order : (ends : Bool) (job : JobView) → InOrder job.left
      → InOrder (cond {A = JobView} ends (at_stage Ended job) (first_done job)).left
  refused-in-order true job before = before
  refused-in-order false job before = rest-in-order job.left before

  noted-in-order : (stage : Stage) (job : JobView) (reply : Reply) → InOrder job.left
      → InOrder (noted_by stage job reply).left
  noted-in-order Expiring job (Ok answer) before = before
  noted-in-order Expiring job (Err e) before = before
  noted-in-order Cleaning job (Ok answer) before = answered-in-order answer job before
  noted-in-order Cleaning job (Err e) before = refused-in-order (ends_round e) job before
  noted-in-order Ended job reply before = before

  all-in-order : (replies : List Reply) (job : JobView) → InOrder job.left
      → InOrder (fold job_after_reply job replies).left
  all-in-order [] job before = before
  all-in-order (reply ∷ replies) job before =
      all-in-order replies (job_after_reply job reply) (noted-in-order job.stage job reply before)

  in-order : (job : JobView) → IsPlanned planned job → InOrder job.left
  in-order job is =
      subst (λ (j : JobView). InOrder j.left) (sym is.since)
      (all-in-order is.replies is.begun (taken-in-order is.config is.now is.begun.left is.plan.taken))

  -- ---- the first of them is the oldest

  cleans-it : (l : Layout) (segment now : ℕ) → Cleans segment (cleaning_event l segment now)
  cleans-it l segment now =
      elim (needed_count l.store (needed_by l.lists) segment == 0) as (λ b.
      Cleans segment (cond {A = Event} b (Retire segment) (Move segment 30 now))) [
        | true ↦ refl
        | false ↦ refl
      ]

  others-younger : (segment : ℕ) (rest : List ℕ) → InOrder (segment ∷ rest)
      → All (λ s. (s ≡ segment) ⊎ IsOlder planned segment s) (segment ∷ rest)
  others-younger segment rest order zero d within = inl refl
  others-younger segment rest order (suc k) d within = inr (order 0 (suc k) d (omega arith) within)

  first-oldest : (left : List ℕ) (l : Layout) (now : ℕ) (event : Event) → InOrder left
      → next_cleaning left now l ≡ Some event
      → CleansOldest planned left event
  first-oldest [] l now event order next = absurd (none-some event next)
  first-oldest (segment ∷ rest) l now event order next = record {
    segment = segment;
    cleans =
        subst (Cleans segment) (sym (some-is (cleaning_event l segment now) event next))
        (cleans-it l segment now);
    among = (0, omega arith, refl);
    others = others-younger segment rest order;
  }

  by-stage : (stage : Stage) (job : JobView) (l : Layout) (event : Event) → InOrder job.left
      → next_by stage job l ≡ Some event
      → TakesOldest planned job event
  by-stage Expiring job l event order next = inl (some-is (Expire job.moment job.period) event next)
  by-stage Cleaning job l event order next = inr (first-oldest job.left l job.moment event order next)
  by-stage Ended job l event order next = absurd (none-some event next)

  takes-oldest : (job : JobView) (l : Layout) (next : Option Event) → next ≡ next_event job l
      → IsPlanned planned job
      → IfSome next (TakesOldest planned job)
  takes-oldest job l None is plan = tt
  takes-oldest job l (Some event) is plan = by-stage job.stage job l event (in-order job plan) (sym is)

pub the-oldest-comes-next : TheOldestComesNext
the-oldest-comes-next planned now job plan = takes-oldest planned job now (next_event job now) refl plan
