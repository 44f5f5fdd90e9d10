-- What lies under the lock: a pen, the history of its commits, and how much of that is published.
use Rattle.std.specs.Prelude.{ℕ, ◌≡◌, ◌≢◌, ◌≤◌, ◌⊎◌, ◌++◌, List, [], ◌∷◌, fold, map, Option, Some, None, Result, Ok, Err}
use mathlib.Core.List.{IsPrefix}
use Rattle.logbook.specs.Pages.{Book}
use Rattle.nl_types.specs.declared.error.VolError.{VolError}
use Rattle.nl_types.specs.declared.error.VolError.TheVariants.{Memory}
use Rattle.nl_types.specs.declared.event.Event.{Event}
use Rattle.nl_types.specs.declared.event.Event.TheVariants.{Mount, Unmount}
use Rattle.nl_types.specs.declared.reply.Answer.{Answer}
use Rattle.nl_types.specs.declared.reply.Answer.TheVariants as answer
use Rattle.nl_types.specs.Plain.Runs.{Run}
use Rattle.nl_types.specs.Plain.Worlds.{Reply}
use Rattle.nl_commit.specs.Commits.{IsHistory, shown_after}
use Rattle.nl_commit.specs.Layout.{IsPen, Layout}
use Rattle.nl_commit.specs.Notes.{DoesNoting, shown_of}
use Rattle.nl_commit.specs.Shown.{Shown}
use Rattle.nl_commit.specs.declared.commit.Commit.{Commit}
use Rattle.nl_publish.specs.declared.reader_state.ReaderState.{ReaderState}
use Rattle.nl_publish.specs.declared.reader_state.Entry.{Entry}
use Rattle.nl_publish.specs.Histories.{Known}
use Rattle.nl_publish.specs.States.{IsWhole, AreNext, absorbed}
use Rattle.nl_publish.specs.Refusals.{HasRefused}

-- the history that is published, the whole history with what is pending, how many commits at its end the press
-- hasn't got, the mount whose commit could not be published, the pen, and how often a publication was refused
pub record HeldPen : Type 0 where
  pub volume : ℕ
  pub published : List Commit
  pub history : List Commit
  pub unsent : ℕ
  pub lost : Option ℕ
  pub layout : Layout
  pub refusals : ℕ

-- what is published of it
abbrev pub told_by : HeldPen → Known
told_by h = record { volume = h.volume; commits = h.published }

abbrev pub listed : {A : Type 0} → Option A → List A
listed None = []
listed (Some x) = x ∷ []

-- What readers see of the pen is what the published and then the pending commits make. `noted` ends the
-- entries that readers don't see yet.
pub record IsHeld (book : ℕ → Book) (log : ℕ) (state : ReaderState) (entries : List Entry) (noted : Known)
    (waiting : List Commit) (shown : Shown) : Type 0 where
  pub volume : log ≡ noted.volume
  pub book_is : state.seen.book ≡ book log
  pub whole : IsWhole state
  pub next : AreNext state entries
  pub last : noted.commits ≡ (fold absorbed state entries).seen.log
  pub history : IsHistory (noted.commits ++ waiting)
  pub shown_is : shown ≡ shown_after (noted.commits ++ waiting)

-- what is true of whatever lies under a lock: the equation, and how much of the history is published
pub record IsHeldPen (h : HeldPen) : Type 0 where
  pub history : IsHistory h.history
  pub shown : shown_of h.layout ≡ shown_after h.history
  pub published : IsPrefix h.published h.history

-- so it is sound: its pen means a world, and that is true of it
pub record IsSoundState (h : HeldPen) : Type 0 where
  pub told : IsHeldPen h
  pub pen : IsPen h.layout

-- ---- events, with the history that they make

abbrev pub State : Type 0
State = Layout × List Commit

-- the event is done to a pen that readers share, and the history grows by just its commits
abbrev pub NotedStep : State → Event → Reply → State → Type 0
NotedStep old event reply new = DoesNoting old.0 event reply new.0 old.1 new.1

abbrev pub state_of : HeldPen → State
state_of h = (h.layout, h.history)

-- these events ran, the history grew by their commits, and no less of it is published
pub record Goes (old : HeldPen) (events : List Event) (replies : List Reply) (new : HeldPen) : Type 0 where
  pub volume : new.volume ≡ old.volume
  pub runs : Run NotedStep (state_of old) events replies (state_of new)
  pub later : IsPrefix old.published new.published
  pub counts : old.refusals ≤ new.refusals

-- nothing ran, and the same mount is lost
abbrev pub StaysHeld : HeldPen → HeldPen → Type 0
StaysHeld old new = Goes old [] [] new × (new.lost ≡ old.lost)

-- one event ran
abbrev pub GoesBy : HeldPen → Event → Reply → HeldPen → Type 0
GoesBy old event reply new = Goes old (event ∷ []) (reply ∷ []) new × (new.lost ≡ old.lost)

-- ---- publication

-- all of the history is published, or a publication was refused
abbrev pub IsTried : HeldPen → HeldPen → Type 0
IsTried old new = (new.published ≡ new.history) ⊎ HasRefused old.refusals new.refusals

-- not all of it is published, and a publication was refused
pub record IsPending (old new : HeldPen) : Type 0 where
  pub apart : new.published ≢ new.history
  pub refused : HasRefused old.refusals new.refusals

-- ---- a mount that was lost

abbrev pub given_back : Option ℕ → List Event
given_back None = []
given_back (Some m) = Unmount m ∷ []

-- the replies to events that are all done
abbrev pub as_reply : Answer → Reply
as_reply a = Ok a

abbrev pub as_replies : List Answer → List Reply
as_replies answers = map as_reply answers

-- the lost mount is back
pub record IsReady (old new : HeldPen) : Type 0 where
  pub backs : List Answer
  pub goes : Goes old (given_back old.lost) (as_replies backs) new
  pub lost : new.lost ≡ None

-- the give-back was refused, nothing else ran, and what is pending was tried
pub record IsStuck (old new : HeldPen) : Type 0 where
  pub number : ℕ
  pub error : VolError
  pub was : old.lost ≡ Some number
  pub goes : GoesBy old (Unmount number) (Err error) new
  pub tried : IsTried old new

-- the give-back was refused in the pen, and nothing else was done
pub record IsHeldBack (old new : HeldPen) : Type 0 where
  pub number : ℕ
  pub error : VolError
  pub was : old.lost ≡ Some number
  pub goes : GoesBy old (Unmount number) (Err error) new

-- the lost mount was given back in the pen, or that was refused
abbrev pub LostComesBack : HeldPen → Result (Unit {0}) VolError → HeldPen → Type 0
LostComesBack old (Ok u) new = IsReady old new
LostComesBack old (Err e) new = (e ≡ Memory) × IsHeldBack old new

-- what comes before a call's own event
abbrev pub Begins : HeldPen → Result (Unit {0}) VolError → HeldPen → Type 0
Begins old (Ok u) new = IsReady old new
Begins old (Err e) new = (e ≡ Memory) × IsStuck old new

-- ---- calls

-- an event that neither mounts nor gives a mount back
abbrev pub IsNoMountEvent : Event → Type 0
IsNoMountEvent (Mount n) = ⊥
IsNoMountEvent (Unmount m) = ⊥
IsNoMountEvent _ = Unit {0}

-- no mount is lost, and all of the history is published, or that was refused
pub record IsDone (old new : HeldPen) : Type 0 where
  pub lost : new.lost ≡ None
  pub tried : IsTried old new

-- a lost mount is given back, and then the event runs; or the give-back is refused, and nothing else runs
pub data Ran (old : HeldPen) (event : Event) (reply : Reply) (new : HeldPen) : Type 0 where
  Done : (backs : List Answer)
      → Goes old (given_back old.lost ++ event ∷ []) (as_replies backs ++ reply ∷ []) new
      → IsDone old new → Ran old event reply new
  NotBegun : IsStuck old new → reply ≡ Err Memory → Ran old event reply new

-- a mount's number, or why there is none
abbrev pub MountReply : Type 0
MountReply = Result ℕ VolError

abbrev pub mount_reply : ℕ → Reply
mount_reply m = Ok (answer.Mount m)

-- a checkpoint was mounted in the pen alone, or that was refused
abbrev pub MountGoes : HeldPen → ℕ → MountReply → HeldPen → Type 0
MountGoes old n (Ok m) new = GoesBy old (Mount n) (mount_reply m) new
MountGoes old n (Err e) new = GoesBy old (Mount n) (Err e) new

-- a mount's commit is published, or its number is kept to be given back
abbrev pub Finished : HeldPen → ℕ → MountReply → HeldPen → Type 0
Finished old n (Ok m) new = (m ≡ n) × Goes old [] [] new × (new.published ≡ new.history) × (new.lost ≡ None)
Finished old n (Err e) new =
    (e ≡ Memory) × Goes old [] [] new × IsPending old new × (new.lost ≡ Some n)

-- before a mount: a lost mount is back, and nothing is pending
pub record IsClear (old new : HeldPen) : Type 0 where
  pub ready : IsReady old new
  pub settled : new.published ≡ new.history

-- What `mount` does: all is published, with the mount's own commit; or the mount was made, and its commit
-- was not published; or the mount was refused; or something is pending still; or the give-back was refused. So
-- memory is refused by the pen, or by what publishes
pub data MountRan (old : HeldPen) (checkpoint : ℕ) (reply : MountReply) (new : HeldPen) : Type 0 where
  Mounted : (clear : HeldPen) (n : ℕ) → IsClear old clear
      → Goes clear (Mount checkpoint ∷ []) (mount_reply n ∷ []) new → reply ≡ Ok n
      → new.published ≡ new.history → new.lost ≡ None → MountRan old checkpoint reply new
  Lost : (clear : HeldPen) (n : ℕ) → IsClear old clear
      → Goes clear (Mount checkpoint ∷ []) (mount_reply n ∷ []) new → reply ≡ Err Memory
      → IsPending old new → new.lost ≡ Some n → MountRan old checkpoint reply new
  Refused : (clear : HeldPen) (e : VolError) → IsClear old clear → GoesBy clear (Mount checkpoint) (Err e) new
      → reply ≡ Err e → MountRan old checkpoint reply new
  Pending : IsReady old new → IsPending old new → reply ≡ Err Memory
      → MountRan old checkpoint reply new
  Stuck : IsStuck old new → reply ≡ Err Memory → MountRan old checkpoint reply new
