-- What calls answer, by what worlds do.
use Rattle.std.proofs.Common.{◌≡◌, ◌+◌, ℕ, inl, inr, Bool, true, false, cond, List, [], length, Result, Ok, Err, refl, subst, arith}
use Rattle.std.specs.Prelude.{◌==◌, IfOk, MatchResult, nat_lt}
use Rattle.nl_types.specs.declared.error.VolError.{VolError}
use Rattle.nl_types.specs.declared.error.VolError.TheVariants as error
use Rattle.nl_types.specs.declared.event.Ask.{Ask}
use Rattle.nl_types.specs.declared.event.Ask.TheVariants as ask
use Rattle.nl_types.specs.declared.event.Change.{Change}
use Rattle.nl_types.specs.declared.event.Change.TheVariants as change
use Rattle.nl_types.specs.declared.event.Event.{Event}
use Rattle.nl_types.specs.declared.event.Event.TheVariants as event
use Rattle.nl_types.specs.declared.reply.Answer.{Answer}
use Rattle.nl_types.specs.declared.reply.Answer.TheVariants as answer
use Rattle.nl_types.specs.declared.reply.Object.TheVariants.{Dir, File}
use Rattle.nl_types.specs.declared.row.ListOptions.{ListOptions}
use Rattle.nl_types.specs.Plain.Calls as calls
use Rattle.nl_types.specs.Plain.Calls.{ReadTakesMemory, and_then, file_at, refuse_if}
use Rattle.nl_types.specs.Plain.Limits.{file_limit}
use Rattle.nl_types.specs.Plain.Paths.{Path, path_of}
use Rattle.nl_types.specs.Plain.Rows.{range_removal}
use Rattle.nl_types.specs.Plain.Runs.{TakesMemory}
use Rattle.nl_types.specs.Plain.Trees.{Tree, insert}
use Rattle.nl_types.specs.Plain.Worlds.{Outcome, Reply, World, latest, rows, step}
use Rattle.nl_types.specs.Facts.CallLookups.{calls_answer_done}
use Rattle.nl_types.specs.Facts.EventCases.{either_gives}
use Rattle.nl_types.specs.Facts.Judgements.{and_then_any, refuse_if_then}
use Rattle.nl_commit.specs.Layout.{Becomes, Does, IsPen, Layout, cleaned, unshared}
use Rattle.nl_events.specs.Facts.Ledgers.{same-numbers}
use Rattle.nl_types.specs.Changes.{change_at}
use Rattle.nl_types.specs.Replies.{IsReplyWith, reply_with}
use Rattle.nl_types.specs.declared.changes.PathCall.{PathCall}
use Rattle.nl_types.specs.declared.changes.PathCall.TheVariants as call

-- ---- what worlds answer

abbrev Gives : (Answer → Type 0) → Outcome → Type 0
Gives P o = IfOk o.0 P

abbrev IsOf : {A : Type 0} → (A → Answer) → Answer → Type 0
IsOf {A} view found = (a : A) × (found ≡ view a)

-- a change that is not refused answers no more than that it is done
abbrev GivesDone : Answer × Tree → Type 0
GivesDone done = done.0 ≡ answer.Done

abbrev GivesCount : Answer × Tree → Type 0
GivesCount done = IsOf answer.Written done.0

path-gives : (asked : PathCall) (path : List ℕ) (t : Tree)
    → IfOk (calls.change t (change_at asked path)) GivesDone
path-gives call.Create path t =
    and_then_any GivesDone (path_of path) _ (λ p. (calls_answer_done t p).create (File []))
path-gives call.Mkdir path t =
    and_then_any GivesDone (path_of path) _ (λ p. (calls_answer_done t p).create Dir)
path-gives (call.Truncate size) path t =
    and_then_any GivesDone (path_of path) _ (λ p. (calls_answer_done t p).truncate size)
path-gives call.Unlink path t =
    and_then_any GivesDone (path_of path) _ (λ p. (calls_answer_done t p).unlink)
path-gives call.Rmdir path t =
    and_then_any GivesDone (path_of path) _ (λ p. (calls_answer_done t p).rmdir)

rename-gives : (from to : List ℕ) (t : Tree) → IfOk (calls.change t (change.Rename from to)) GivesDone
rename-gives from to t =
    and_then_any GivesDone (path_of from) _ (λ f.
    and_then_any GivesDone (path_of to) _ (λ p. (calls_answer_done t f).rename p))

write-gives : (path : List ℕ) (offset : ℕ) (bytes : List ℕ) (t : Tree)
    → IfOk (calls.change t (change.Write path offset bytes)) GivesCount
write-gives path offset bytes t =
    and_then_any GivesCount (path_of path) (calls.write t offset bytes) (λ p.
    and_then_any GivesCount (file_at t p) _ (λ old. by p old (length bytes == 0)))
  where
    by : (p : Path) (old : List ℕ) (b : Bool)
        → IfOk (cond {A = calls.Changed} b (Ok (answer.Written 0, t))
        (refuse_if (nat_lt file_limit (offset + length bytes)) error.TooBig
        (Ok (answer.Written (length bytes), insert t p (File (calls.overwritten old offset bytes))))))
        GivesCount
    by p old true = (0, refl)
    by p old false = refuse_if_then GivesCount (nat_lt file_limit (offset + length bytes)) error.TooBig
        (Ok (answer.Written (length bytes), insert t p (File (calls.overwritten old offset bytes))))
        (λ _. (length bytes, refl))

change-gives : (P : Answer → Type 0) (c : Change)
    → ((t : Tree) → IfOk (calls.change t c) (λ done. P done.0))
    → (told : Reply) (w : World) → Gives P (step told w (event.Apply c))
change-gives P c gives told w =
    either_gives (Gives P) w (calls.change w.tree c) _ (λ e. tt)
    (λ done is. subst (λ (r : calls.Changed). IfOk r (λ d. P d.0)) is (gives w.tree))

range-gives : (first last : ℕ) (told : Reply) (w : World)
    → Gives (IsOf answer.Removed) (step told w (event.RemoveRange first last))
range-gives first last told w =
    either_gives (Gives (IsOf answer.Removed)) w (range_removal first last (latest w) (rows w)) _ (λ e. tt)
    (λ range is. (range, refl))

bytes-give : (path : List ℕ) (offset len : ℕ) (told : Reply) (w : World)
    → Gives (IsOf answer.Bytes) (step told w (event.Read (ask.Bytes path offset len)))
bytes-give path offset len told w =
    and_then_any (IsOf answer.Bytes) (path_of path) _ (λ p.
    and_then_any (IsOf answer.Bytes) (file_at w.tree p) _ (λ bytes. (_, refl)))

names-give : (path : List ℕ) (told : Reply) (w : World)
    → Gives (IsOf answer.Names) (step told w (event.Read (ask.List path)))
names-give path told w =
    and_then_any (IsOf answer.Names) (and_then (path_of path) (calls.list w.tree)) _ (λ names. (names, refl))

stat-gives : (path : List ℕ) (told : Reply) (w : World)
    → Gives (IsOf answer.Stat) (step told w (event.Read (ask.Stat path)))
stat-gives path told w =
    and_then_any (IsOf answer.Stat) (and_then (path_of path) (calls.stat w.tree)) _ (λ found. (found, refl))

-- ---- so a pen answers

module _ (old new : Layout) (held : IsPen old) where
  answered : (e : Event) (P : Answer → Type 0) (found : Answer)
      → ((told : Reply) (w : World) → Gives P (step told w e))
      → Does unshared old e (Ok found) new → P found
  answered e P found gives does =
      let next = does.follows held.world.0 held.world.1 in
      elim next.step [
        | inl is ↦ subst (Gives P) is (gives (cleaned old e) held.world.0)
        | inr never ↦ absurd (cc never.reply_is)
      ]

  replied : {A : Type 0} (view : A → Answer) (e : Event) (reply : Reply)
      → ((told : Reply) (w : World) → Gives (IsOf view) (step told w e))
      → Does unshared old e reply new → IsReplyWith view reply
  replied view e (Ok found) gives does = answered e (IsOf view) found gives does
  replied view e (Err refusal) gives does = tt

  pub path-done : (asked : PathCall) (path : List ℕ) (found : Answer)
      → Does unshared old (event.Apply (change_at asked path)) (Ok found) new → found ≡ answer.Done
  path-done asked path found =
      answered (event.Apply (change_at asked path)) (λ a. a ≡ answer.Done) found
      (change-gives (λ a. a ≡ answer.Done) (change_at asked path) (path-gives asked path))

  pub rename-done : (from to : List ℕ) (found : Answer)
      → Does unshared old (event.Apply (change.Rename from to)) (Ok found) new → found ≡ answer.Done
  rename-done from to found =
      answered (event.Apply (change.Rename from to)) (λ a. a ≡ answer.Done) found
      (change-gives (λ a. a ≡ answer.Done) (change.Rename from to) (rename-gives from to))

  pub write-reply : (path : List ℕ) (offset : ℕ) (bytes : List ℕ) (reply : Reply)
      → Does unshared old (event.Apply (change.Write path offset bytes)) reply new
      → IsReplyWith answer.Written reply
  write-reply path offset bytes reply =
      replied answer.Written (event.Apply (change.Write path offset bytes)) reply
      (change-gives (IsOf answer.Written) (change.Write path offset bytes) (write-gives path offset bytes))

  pub range-reply : (first last : ℕ) (reply : Reply)
      → Does unshared old (event.RemoveRange first last) reply new → IsReplyWith answer.Removed reply
  range-reply first last reply =
      replied answer.Removed (event.RemoveRange first last) reply (range-gives first last)

  pub rows-reply : (options : ListOptions) (reply : Reply)
      → Does unshared old (event.Listing options) reply new → IsReplyWith answer.Rows reply
  rows-reply options reply = replied answer.Rows (event.Listing options) reply (λ told w. (_, refl))

  pub bytes-reply : (path : List ℕ) (offset len : ℕ) (reply : Reply)
      → Does unshared old (event.Read (ask.Bytes path offset len)) reply new → IsReplyWith answer.Bytes reply
  bytes-reply path offset len reply =
      replied answer.Bytes (event.Read (ask.Bytes path offset len)) reply (bytes-give path offset len)

  pub names-reply : (path : List ℕ) (reply : Reply)
      → Does unshared old (event.Read (ask.List path)) reply new → IsReplyWith answer.Names reply
  names-reply path reply = replied answer.Names (event.Read (ask.List path)) reply (names-give path)

  pub stat-reply : (path : List ℕ) (reply : Reply)
      → Does unshared old (event.Read (ask.Stat path)) reply new → IsReplyWith answer.Stat reply
  stat-reply path reply = replied answer.Stat (event.Read (ask.Stat path)) reply (stat-gives path)

-- ---- results

-- a result tells the answer of the reply
pub has-answered : {A : Type 0} (view : A → Answer) (old new : Layout) (e : Event) (reply : Reply)
    (result : Result A VolError)
    → Does unshared old e reply new → MatchResult result (λ a. reply ≡ Ok (view a)) (λ x. reply ≡ Err x)
    → Does unshared old e (reply_with view result) new
has-answered view old new e reply (Ok a) does is = subst (λ (q : Reply). Does unshared old e q new) is does
has-answered view old new e reply (Err x) does is = subst (λ (q : Reply). Does unshared old e q new) is does

-- what only asks changes nothing
pub listing-stays : (old new : Layout) (options : ListOptions) (reply : Reply)
    → Does unshared old (event.Listing options) reply new → new ≡ old
listing-stays old new options (Ok found) does = does.becomes
listing-stays old new options (Err e) does = does.becomes

pub read-stays : (old new : Layout) (a : Ask) (reply : Reply) → Does unshared old (event.Read a) reply new
    → new ≡ old
read-stays old new a (Ok found) does = does.becomes
read-stays old new a (Err e) does = does.becomes

-- ---- where there is no memory for the bytes of an event

module _ (l : Layout) (held : IsPen l) where
  -- what takes memory may be refused it, where nothing changes
  lacking : (e : Event) → TakesMemory e → Becomes l e (Err error.Memory) l
      → Does unshared l e (Err error.Memory) l
  lacking e takes becomes = record {
    follows = λ w means. record {
      after = w;
      means = means;
      step = inr (record { error = error.Memory; reply_is = refl; may_be = takes; unchanged = refl });
    };
    becomes = becomes;
    numbers = same-numbers l l refl;
    pen = held;
    failures = omega arith;
  }

  pub change-lacking : (c : Change) → Does unshared l (event.Apply c) (Err error.Memory) l
  change-lacking c = lacking (event.Apply c) tt refl

  pub read-lacking : (a : Ask) → ReadTakesMemory a → Does unshared l (event.Read a) (Err error.Memory) l
  read-lacking a takes = lacking (event.Read a) takes refl
