-- What rounds under a lock are to the cleaner.
use Rattle.std.proofs.Common.{◌≡◌, ℕ, List, [], ◌∷◌, Option, Some, None, Ok, Err, ap, sym, ◌∙◌, subst, true, true≢false, inl, inr, arith}
use Rattle.std.specs.Prelude.{All, IsOk}
use Rattle.std.proofs.lemmas.List.Elements.{All-tail}
use Rattle.std.proofs.lemmas.Option.{same_Some}
use Rattle.nl_types.specs.declared.event.Event.{Event}
use Rattle.nl_types.specs.declared.reply.Answer.{Answer}
use Rattle.nl_types.specs.Plain.Runs.{Run}
use Rattle.nl_types.specs.Plain.Worlds.{Reply}
use Rattle.nl_commit.specs.Layout.{Does, Layout}
use Rattle.nl_commit.specs.Notes.{shared}
use Rattle.nl_cleaner.specs.Job.{JobView, next_event}
use Rattle.nl_cleaner.specs.Laws.{GivesBack, RoundsLeaveNothingDead, SteppedWithGiveBacks}
use Rattle.nl_cleaner.specs.Rounds.{cleaning_habits}
use Rattle.nl_publish.specs.Cleaning.{CleanRan}
use Rattle.nl_publish.specs.Cleaning as cleaning
use Rattle.nl_publish.specs.Locks.{Goes, HeldPen, IsReady, State, as_replies, given_back}
use Rattle.nl_script.specs.Rounds.{AreSteps}
use Rattle.nlvol.specs.Cleanings.{CleaningsLeaveNothingDead}
use Rattle.nlvol.specs.SharedVolumes.{Sharing, shared_steps}

-- ---- one step

-- a lost mount that is back was given back in the pen
backs-by : (old begun : HeldPen) (lost : Option ℕ) (backs : List Answer)
    → Goes old (given_back lost) (as_replies backs) begun → GivesBack shared old.layout begun.layout
backs-by old begun None [] goes =
    record { mounts = []; replies = []; ran = ap (λ (s : State). s.0) goes.runs }
backs-by old begun None (a ∷ backs) goes = absurd goes.runs
backs-by old begun (Some m) [] goes = absurd goes.runs
backs-by old begun (Some m) (a ∷ []) goes = record {
  mounts = m ∷ [];
  replies = Ok a ∷ [];
  ran = (goes.runs.0.0, goes.runs.1.does, ap (λ (s : State). s.0) goes.runs.2);
}
backs-by old begun (Some m) (a ∷ b ∷ backs) goes = absurd goes.runs.2

backs-of : (old begun : HeldPen) → IsReady old begun → GivesBack shared old.layout begun.layout
backs-of old begun ready = backs-by old begun old.lost ready.backs ready.goes

-- a step of a session is one of the cleaner's, with give-backs
abbrev IsCleanerStep : JobView → Sharing → Reply → JobView → Sharing → Type 0
IsCleanerStep job old reply next new =
    (event : Event) × SteppedWithGiveBacks shared (job, old.held.layout) event reply (next, new.held.layout)

step-ran : (job next : JobView) (old new : Sharing) (a : Answer)
    → CleanRan cleaning_habits old.held job (Some (Ok a)) new.held next
    → IsCleanerStep job old (Ok a) next new
step-ran job next old new a (cleaning.Stepped begun event answer ready is goes replied now tried) =
    let same : Ok a ≡ answer = same_Some (Ok a) answer replied in (
      event,
      record {
        begun = begun.layout;
        backs = backs-of old.held begun ready;
        step = record {
          next = is;
          does =
              subst (λ (l : Layout). Does shared begun.layout event (Ok a) l)
              (sym (ap (λ (s : State). s.0) goes.0.runs.2))
              (subst (λ (r : Reply). Does shared begun.layout event r goes.0.runs.0.0) (sym same)
              goes.0.runs.1.does);
          job = now ∙ ap (λ (r : Reply). cleaning_habits.noted job r) (sym same);
        };
      },
    )
step-ran job next old new a (cleaning.Over ready is replied now tried) = absurd (cc replied)
step-ran job next old new a (cleaning.NotBegun stuck replied now) = absurd (cc replied)

cleaner-step : (job next : JobView) (old new : Sharing) (a : Answer)
    → shared_steps cleaning_habits old job (Some (Ok a)) new next → IsCleanerStep job old (Ok a) next new
cleaner-step job next old new a (inl over, same) = absurd (cc over.1)
cleaner-step job next old new a (inr ran, same) = step-ran job next old new a ran

-- ---- to the end of a round

cleaner-run : (job later : JobView) (old new : Sharing) (replies : List Reply)
    → AreSteps (shared_steps cleaning_habits) job old replies later new → All IsOk replies
    → (events : List Event)
    × Run (SteppedWithGiveBacks shared) (job, old.held.layout) events replies (later, new.held.layout)
cleaner-run job later old new [] steps oks =
    ([], λ i. (steps.0 i, (steps.1 i).held.layout))
cleaner-run job later old new (Ok a ∷ replies) steps oks =
    let mid = steps.0 in
    let next = steps.1 in
    let first = cleaner-step job next old mid a steps.2 in
    let rest =
    cleaner-run next later mid new replies steps.3 (All-tail (λ (r : Reply). IsOk r) (Ok a) replies oks) in
    (first.0 ∷ rest.0, ((next, mid.held.layout), first.1, rest.1))
cleaner-run job later old new (Err e ∷ replies) steps oks =
    absurd (true≢false (sym (oks 0 (Err e) (omega arith))))

-- nothing is left, be a lost mount given back or not
record IsOverBehind (job : JobView) (old new : Sharing) : Type 0 where
  backs : GivesBack shared old.held.layout new.held.layout
  none : next_event job new.held.layout ≡ None

over-behind : (job last : JobView) (old new : Sharing) → shared_steps cleaning_habits old job None new last
    → IsOverBehind job old new
over-behind job last old new (inl over, same) =
    let still : new.held.layout ≡ old.held.layout = ap (λ (h : HeldPen). h.layout) over.2 in
    record {
      backs = record { mounts = []; replies = []; ran = still };
      none = ap (next_event job) still ∙ over.0;
    }
over-behind job last old new (inr ran, same) = by ran
  where
    by : CleanRan cleaning_habits old.held job None new.held last → IsOverBehind job old new
    by (cleaning.Stepped begun event answer ready is goes replied now tried) = absurd (cc replied)
    by (cleaning.Over ready is replied now tried) =
        record { backs = backs-of old.held new.held ready; none = is }
    by (cleaning.NotBegun stuck replied now) = absurd (cc replied)

pub cleanings_leave_nothing_dead : RoundsLeaveNothingDead true → CleaningsLeaveNothingDead
cleanings_leave_nothing_dead law config line moment old new end done held takes oks =
    let over = done.over in
    let run = cleaner-run done.job over.later old over.mid over.replies over.done oks in
    let last = over-behind over.later over.last over.mid new over.over in
    law done.job over.later old.held.layout over.mid.held.layout new.held.layout run.0 over.replies held
    done.planned.stage takes run.1 oks last.backs last.none
