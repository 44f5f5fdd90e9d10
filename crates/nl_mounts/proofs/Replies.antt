-- What events answer that ran under the lock.
use Rattle.std.proofs.Common.{◌≡◌, ◌+◌, ℕ, inl, inr, Bool, true, false, cond, List, [], ◌∷◌, ◌++◌, length, Option, Result, Ok, Err, refl, sym, ap, subst}
use Rattle.std.specs.Prelude.{◌==◌, IfOk, MatchResult, nat_lt, nat_le}
use Rattle.nl_types.specs.declared.error.VolError.{VolError}
use Rattle.nl_types.specs.declared.error.VolError.TheVariants as error
use Rattle.nl_types.specs.declared.event.Change.TheVariants as change
use Rattle.nl_types.specs.declared.event.Event.{Event}
use Rattle.nl_types.specs.declared.event.Event.TheVariants as event
use Rattle.nl_types.specs.declared.event.Mode.{Mode}
use Rattle.nl_types.specs.declared.reply.Answer.{Answer}
use Rattle.nl_types.specs.declared.reply.Answer.TheVariants as answer
use Rattle.nl_types.specs.declared.reply.Object.TheVariants.{File}
use Rattle.nl_types.specs.declared.row.ListOptions.{ListOptions}
use Rattle.nl_types.specs.Plain.Calls as calls
use Rattle.nl_types.specs.Plain.Calls.{file_at, refuse_if}
use Rattle.nl_types.specs.Plain.Limits.{checkpoint_number_limit, file_limit}
use Rattle.nl_types.specs.Plain.Paths.{Path, path_of}
use Rattle.nl_types.specs.Plain.Rows.{range_removal}
use Rattle.nl_types.specs.Plain.Runs.{Run}
use Rattle.nl_types.specs.Plain.Trees.{Tree, insert}
use Rattle.nl_types.specs.Plain.Worlds.{Outcome, Reply, World, latest, rows, step}
use Rattle.nl_types.specs.Facts.EventCases.{either_gives, refused_if_gives}
use Rattle.nl_types.specs.Facts.Judgements.{and_then_any, refuse_if_then}
use Rattle.nl_commit.specs.Layout.{DoesIn, Layout, cleaned}
use Rattle.nl_commit.specs.Notes.{shared}
use Rattle.nl_publish.specs.Locks.{Done, HeldPen, IsSoundState, NotBegun, Ran, as_replies, given_back}
use Rattle.nl_publish.specs.Told.{LockedRunsLeadOn}
use Rattle.nl_types.specs.Replies.{IsReplyWith, reply_with}
use Rattle.nl_mounts.specs.TypedCalls.{HasDone}
use Rattle.nl_mounts.specs.Sharing.{HasRun}

-- ---- the last step of a run

last_step : {S E R : Type 0} (Steps : S → E → R → S → Type 0) (s t : S) (es : List E) (e : E) (rs : List R)
    (r : R)
    → Run Steps s (es ++ e ∷ []) (rs ++ r ∷ []) t → (mid : S) × (last : S) × Steps mid e r last
last_step Steps s t [] e [] r run = (s, run.0, run.1)
last_step Steps s t [] e (q ∷ []) r run = absurd run.2
last_step Steps s t [] e (q ∷ (p ∷ rs)) r run = absurd run.2
last_step Steps s t (d ∷ []) e [] r run = absurd run.2
last_step Steps s t (d ∷ (c ∷ es)) e [] r run = absurd run.2
last_step Steps s t (d ∷ es) e (q ∷ rs) r run = last_step Steps run.0 t es e rs r run.2

-- an event that is answered is a step of some world
record IsStep (asked : Event) (a : Answer) : Type 0 where
  told : Reply
  before : World
  after : World
  is : step told before asked ≡ (Ok a, after)

answered_step : LockedRunsLeadOn → (asked : Event) (a : Answer) → HasRun asked (Ok a) → IsStep asked a
answered_step lead asked a run = by run.old run.new run.sound run.ran
  where
    by : (old new : HeldPen) → IsSoundState old → Ran old asked (Ok a) new → IsStep asked a
    by old new sound (NotBegun stuck is) = absurd (cc is)
    by old new sound (Done backs goes lost) =
        let runs = lead old new (given_back old.lost ++ asked ∷ []) (as_replies backs ++ Ok a ∷ []) goes
        sound.pen.world.0 sound.pen.world.1 in
        let last = last_step (DoesIn shared) (old.layout, sound.pen.world.0) (new.layout, runs.after)
        (given_back old.lost) asked (as_replies backs) (Ok a) runs.run in
        elim last.2.step [
          | inl is ↦ record {
            told = cleaned last.0.0 asked;
            before = last.0.1;
            after = last.1.1;
            is = is;
          }
          | inr never ↦ absurd (cc never.reply_is)
        ]

-- ---- kinds of answers

module _ {A : Type 0} (view : A → Answer) (asked : Event)
    (kind : (told : Reply) (w : World) → IsReplyWith view (step told w asked).0) where
  of_kind : LockedRunsLeadOn → (reply : Reply) → HasRun asked reply → IsReplyWith view reply
  of_kind lead (Err e) run = tt
  of_kind lead (Ok a) run =
      let at = answered_step lead asked a run in
      subst (λ (o : Outcome). IsReplyWith view o.0) at.is (kind at.told at.before)

abbrev IsWritten : Answer × Tree → Type 0
IsWritten done = (n : ℕ) × (done.0 ≡ answer.Written n)

write_answers : (t : Tree) (path : List ℕ) (offset : ℕ) (bytes : List ℕ)
    → IfOk (calls.change t (change.Write path offset bytes)) IsWritten
write_answers t path offset bytes =
    and_then_any IsWritten (path_of path) (calls.write t offset bytes) (λ p.
    and_then_any IsWritten (file_at t p) _ (λ old. by p old (length bytes == 0)))
  where
    by : (p : Path) (old : List ℕ) (b : Bool)
        → IfOk (cond {A = calls.Changed} b (Ok (answer.Written 0, t))
        (refuse_if (nat_lt file_limit (offset + length bytes)) error.TooBig
        (Ok (answer.Written (length bytes), insert t p (File (calls.overwritten old offset bytes))))))
        IsWritten
    by p old true = (0, refl)
    by p old false = refuse_if_then IsWritten (nat_lt file_limit (offset + length bytes)) error.TooBig
        (Ok (answer.Written (length bytes), insert t p (File (calls.overwritten old offset bytes))))
        (λ _. (length bytes, refl))

abbrev Answers : {A : Type 0} → (A → Answer) → Outcome → Type 0
Answers view o = IsReplyWith view o.0

write_kind : (path : List ℕ) (offset : ℕ) (bytes : List ℕ) (told : Reply) (w : World)
    → IsReplyWith answer.Written (step told w (event.Apply (change.Write path offset bytes))).0
write_kind path offset bytes told w =
    either_gives (Answers answer.Written) w (calls.change w.tree (change.Write path offset bytes)) _ (λ e. tt)
    (λ done is. subst (λ (r : calls.Changed). IfOk r IsWritten) is (write_answers w.tree path offset bytes))

checkpoint_kind : (mode : Mode) (now : ℕ) (told : Reply) (w : World)
    → IsReplyWith answer.Checkpoint (step told w (event.Checkpoint mode now)).0
checkpoint_kind mode now told w =
    refused_if_gives (Answers answer.Checkpoint) (nat_le checkpoint_number_limit (latest w + 1))
    error.NumbersSpent w _ (λ e. tt) (λ few. (latest w + 1, refl))

range_kind : (first last : ℕ) (told : Reply) (w : World)
    → IsReplyWith answer.Removed (step told w (event.RemoveRange first last)).0
range_kind first last told w =
    either_gives (Answers answer.Removed) w (range_removal first last (latest w) (rows w)) _ (λ e. tt)
    (λ range is. (range, refl))

pub write_reply : LockedRunsLeadOn → (path : List ℕ) (offset : ℕ) (bytes : List ℕ) (reply : Reply)
    → HasRun (event.Apply (change.Write path offset bytes)) reply → IsReplyWith answer.Written reply
write_reply lead path offset bytes =
    of_kind answer.Written (event.Apply (change.Write path offset bytes)) (write_kind path offset bytes) lead

pub checkpoint_reply : LockedRunsLeadOn → (mode : Mode) (now : ℕ) (reply : Reply)
    → HasRun (event.Checkpoint mode now) reply → IsReplyWith answer.Checkpoint reply
checkpoint_reply lead mode now =
    of_kind answer.Checkpoint (event.Checkpoint mode now) (checkpoint_kind mode now) lead

pub range_reply : LockedRunsLeadOn → (first last : ℕ) (reply : Reply)
    → HasRun (event.RemoveRange first last) reply → IsReplyWith answer.Removed reply
range_reply lead first last = of_kind answer.Removed (event.RemoveRange first last) (range_kind first last) lead

pub rows_reply : LockedRunsLeadOn → (options : ListOptions) (reply : Reply)
    → HasRun (event.Listing options) reply → IsReplyWith answer.Rows reply
rows_reply lead options = of_kind answer.Rows (event.Listing options) (λ told w. (_, refl)) lead

-- ---- results

pub has_answered : {A : Type 0} (view : A → Answer) (asked : Event) (reply : Reply) (result : Result A VolError)
    → HasRun asked reply → MatchResult result (λ a. reply ≡ Ok (view a)) (λ e. reply ≡ Err e)
    → HasRun asked (reply_with view result)
has_answered view asked reply (Ok a) run is = subst (HasRun asked) is run
has_answered view asked reply (Err e) run is = subst (HasRun asked) is run

pub has_done : (asked : Event) (reply : Reply) (result : Result (Unit {0}) VolError) → HasRun asked reply
    → MatchResult result (λ _. (a : Answer) × (reply ≡ Ok a)) (λ e. reply ≡ Err e)
    → HasDone asked result
has_done asked reply (Ok u) run is = (is.0, subst (HasRun asked) is.1 run)
has_done asked reply (Err e) run is = subst (HasRun asked) is run
