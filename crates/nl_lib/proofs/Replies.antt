-- What events of checkpoints answer once they are done.
use Rattle.std.proofs.Common.{◌≡◌, ◌≢◌, ℕ, ◌+◌, max, leb, false, [], ◌∷◌, ◌++◌, sym, ap, subst, ◌∙◌, inl, inr}
use Rattle.std.specs.Prelude.{◌&&◌, Result, Ok, Err, IfErr, MatchResult}
use Rattle.nl_types.specs.declared.error.VolError.{VolError}
use Rattle.nl_types.specs.declared.error.VolError.TheVariants as error
use Rattle.nl_types.specs.declared.event.Event.{Event}
use Rattle.nl_types.specs.declared.event.Event.TheVariants as event
use Rattle.nl_types.specs.declared.event.Mode.{Mode}
use Rattle.nl_types.specs.declared.reply.Answer.{Answer}
use Rattle.nl_types.specs.declared.reply.Answer.TheVariants as answer
use Rattle.nl_types.specs.Plain.Limits.{checkpoint_number_limit}
use Rattle.nl_types.specs.Plain.Rows.{kept_row, removal}
use Rattle.nl_types.specs.Plain.Runs.{TakesMemory}
use Rattle.nl_types.specs.Plain.Worlds.{Copy, Outcome, Reply, World, change_mode, checkpoint, copies_with_mode, is_given_up, is_mounted, latest, latest_stamp, refused_if, remove, rows, take_out}
use Rattle.nl_types.specs.Facts.EventCases.{either_gives, refused_if_gives}
use Rattle.nl_commit.specs.Layout.{Does, IsPen, Layout, layout_pages, unshared}
use Rattle.nl_commit.specs.Volume.{Lists}
use Rattle.nl_events.specs.Facts.CheckpointEvents.{latest-same}
use Rattle.nl_core.specs.Facts.Refusals.{memory_is_taken}
use Rattle.nl_lib.specs.Calls.{done_reply}

-- the answer in a reply, or another one
abbrev answer_in : Reply → Answer → Answer
answer_in (Ok found) other = found
answer_in (Err e) other = other

-- where an outcome answers, it answers this
abbrev Answers : Answer → World → Answer → Outcome → Type 0
Answers found after expected o = o ≡ (Ok found, after) → found ≡ expected

-- what changes of checkpoints leave
abbrev with_mode : World → ℕ → Mode → World
with_mode w n mode = record w { copies = copies_with_mode n mode w.copies }

abbrev with_next : World → Mode → ℕ → World
with_next w mode now =
    let copy : Copy =
    record { tree = w.tree; mode = mode; minor = false; stamp = max now (latest_stamp w) } in
    record w { dirty = false; copies = w.copies ++ (latest w + 1, copy) ∷ [] }

module _ (w after : World) (found : Answer) where
  answered : (expected : Answer) (left : World) → Answers found after expected (Ok expected, left)
  answered expected left is = sym (ap (λ (o : Outcome). answer_in o.0 expected) is)

  refused : (expected : Answer) (left : World) (e : VolError) → Answers found after expected (Err e, left)
  refused expected left e is = sym (ap (λ (o : Outcome). answer_in o.0 expected) is)

  mode-answer : (n : ℕ) (mode : Mode) → Answers found after answer.Done (change_mode w n mode)
  mode-answer n mode =
      either_gives (Answers found after answer.Done) w (kept_row n (rows w))
      (λ row.
      refused_if (is_given_up row.mode mode && is_mounted w.mounts n) error.Mounted w
      (Ok answer.Done, with_mode w n mode))
      (refused answer.Done w) (λ row kept.
      refused_if_gives (Answers found after answer.Done)
      (is_given_up row.mode mode && is_mounted w.mounts n) error.Mounted w
      (Ok answer.Done, with_mode w n mode) (refused answer.Done w)
      (λ free. answered answer.Done (with_mode w n mode)))

  removal-answer : (n : ℕ) → Answers found after answer.Done (remove w n)
  removal-answer n =
      either_gives (Answers found after answer.Done) w (removal n (latest w) (rows w))
      (λ _. (Ok answer.Done, take_out (n ∷ []) w)) (refused answer.Done w)
      (λ may judged. answered answer.Done (take_out (n ∷ []) w))

  checkpoint-answer : (mode : Mode) (now : ℕ)
      → Answers found after (answer.Checkpoint (latest w + 1)) (checkpoint w mode now)
  checkpoint-answer mode now =
      let made : Answer = answer.Checkpoint (latest w + 1) in
      refused_if_gives (Answers found after made)
      (leb checkpoint_number_limit (latest w + 1)) error.NumbersSpent w
      (Ok made, with_next w mode now) (refused made w) (λ few. answered made (with_next w mode now))

module _ (old new : Layout) (found : Answer) (held : IsPen old) where
  -- a change of a mode answers nothing
  pub mode-done : (n : ℕ) (mode : Mode) → Does unshared old (event.ChangeMode n mode) (Ok found) new
      → found ≡ answer.Done
  mode-done n mode does =
      let next = does.follows held.world.0 held.world.1 in
      elim next.step [
        | inl is ↦ mode-answer held.world.0 next.after found n mode is
        | inr never ↦ ap (λ (r : Reply). answer_in r answer.Done) never.reply_is
      ]

  -- and so does a removal
  pub removal-done : (n : ℕ) → Does unshared old (event.Remove n) (Ok found) new → found ≡ answer.Done
  removal-done n does =
      let next = does.follows held.world.0 held.world.1 in
      elim next.step [
        | inl is ↦ removal-answer held.world.0 next.after found n is
        | inr never ↦ ap (λ (r : Reply). answer_in r answer.Done) never.reply_is
      ]

  -- a checkpoint answers the number that is the latest then
  pub checkpoint-done : (mode : Mode) (now : ℕ) → Does unshared old (event.Checkpoint mode now) (Ok found) new
      → found ≡ answer.Checkpoint new.lists.table.latest.number
  checkpoint-done mode now does =
      let next = does.follows held.world.0 held.world.1 in
      let number : new.lists.table.latest.number ≡ old.lists.table.latest.number + 1 =
      ap (λ (l : Lists). l.table.latest.number) does.becomes.writes.lists in
      let same : latest held.world.0 ≡ old.lists.table.latest.number =
      sym (latest-same (layout_pages old) old.lists held.world.0 held.world.1) in
      elim next.step [
        | inl is ↦
            checkpoint-answer held.world.0 next.after found mode now is
            ∙ ap (λ (n : ℕ). answer.Checkpoint n) (ap (λ (n : ℕ). n + 1) same ∙ sym number)
        | inr never ↦
            ap (λ (r : Reply). answer_in r (answer.Checkpoint new.lists.table.latest.number)) never.reply_is
      ]

-- an event is done, or it is refused
abbrev pub IsDone : Layout → Event → Result (Unit {0}) VolError → Layout → Type 0
IsDone old e result new = MatchResult result (λ _. (found : Answer) × Does unshared old e (Ok found) new)
    (λ refusal. Does unshared old e (Err refusal) new)

pub is_done : (old new : Layout) (e : Event) (r : Reply) (result : Result (Unit {0}) VolError)
    → Does unshared old e r new
    → MatchResult result (λ _. (found : Answer) × (r ≡ Ok found)) (λ refusal. r ≡ Err refusal)
    → IsDone old e result new
is_done old new e r (Ok u) does is = (is.0, subst (λ (q : Reply). Does unshared old e q new) is.1 does)
is_done old new e r (Err refusal) does is = subst (λ (q : Reply). Does unshared old e q new) is does

pub done-replied : (old new : Layout) (e : Event) (result : Result (Unit {0}) VolError)
    → ((found : Answer) → Does unshared old e (Ok found) new → found ≡ answer.Done)
    → IsDone old e result new
    → Does unshared old e (done_reply result) new
done-replied old new e (Ok u) nothing does =
    subst (λ (a : Answer). Does unshared old e (Ok a) new) (nothing does.0 does.1) does.1
done-replied old new e (Err refusal) nothing does = does

-- memory is refused only to what takes it
pub not-memory : (old new : Layout) (e : Event) (result : Result (Unit {0}) VolError) → IsPen old
    → (TakesMemory e → ⊥)
    → IsDone old e result new
    → IfErr result (λ refusal. refusal ≢ error.Memory)
not-memory old new e (Ok u) held none does = tt
not-memory old new e (Err refusal) held none does = λ is.
    none (memory_is_taken old new e held (subst (λ (x : VolError). Does unshared old e (Err x) new) is does))
