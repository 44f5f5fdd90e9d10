-- Files that are read side by side, as replies and as events of a volume.
use Rattle.std.proofs.Common.{◌≡◌, ◌+◌, ◌≤◌, ◌∙◌, inl, inr, ap, refl, sym, subst, cond, not, arith, ℕ, suc, Bool, true, false, List, [], ◌∷◌, ◌++◌, length, map, take, drop, Ok, Err}
use Rattle.std.specs.List.{position_or_len}
use Rattle.nl_types.specs.declared.event.Ask.{Ask}
use Rattle.nl_types.specs.declared.event.Event.{Event}
use Rattle.nl_types.specs.declared.reply.Answer.TheVariants as answer
use Rattle.nl_types.specs.Plain.Calls.{IsUnlessMemory, ShowsUnlessMemory}
use Rattle.nl_types.specs.Plain.Runs.{Run}
use Rattle.nl_types.specs.Plain.Worlds.{Reply}
use Rattle.nl_publish.specs.Mounts.{Claim}
use Rattle.nl_publish.specs.Jobs.{AreAnswers, JobAnswer}
use Rattle.nl_commands.specs.declared.command.Shown.TheVariants.{Content}
use Rattle.nl_script.specs.Events.{asked, reading}
use Rattle.nl_script.specs.FileReads.{AnswersReads, AreFirstFiles, IsPortReply, IsToldThrough, is_bad_mount, job_of, reply_of}

-- ---- replies

pub bytes_shown : (result : JobAnswer) (expected : Reply) → ShowsUnlessMemory answer.Bytes result expected
    → IsUnlessMemory (reply_of result) expected
bytes_shown (Ok bytes) expected shows other = sym shows
bytes_shown (Err e) expected shows other = sym (shows (λ is. other (ap Err is)))

-- what a port tells is what the tree says, where the mount is found
pub found_told : (m : Claim) (ask : Ask) (reply : Reply) → IsPortReply m ask reply
    → is_bad_mount reply ≡ false → IsToldThrough m ask reply
found_told m ask reply told found t tree = elim (told t tree) [
  | inl bad ↦ absurd (cc (sym found ∙ ap is_bad_mount bad))
  | inr is ↦ is
]

-- ---- the first files

module _ (m : Claim) (path : List ℕ) (paths : List (List ℕ)) (reply : Reply) (replies : List Reply) where
  abbrev found : Bool → ℕ
  found b = cond (not b) (1 + position_or_len is_bad_mount replies) 0

  first_of : (b : Bool) → is_bad_mount reply ≡ b → IsPortReply m (asked Content path) reply
      → AreFirstFiles m paths (take (position_or_len is_bad_mount replies) replies)
      → AreFirstFiles m (path ∷ paths) (take (found b) (reply ∷ replies))
  first_of true is told rest = tt
  first_of false is told rest =
      let next : suc (position_or_len is_bad_mount replies) ≡ 1 + position_or_len is_bad_mount replies =
      omega arith in
      subst (λ (k : ℕ). AreFirstFiles m (path ∷ paths) (take k (reply ∷ replies))) next
      (found_told m (asked Content path) reply told is, rest)

pub first_files : (m : Claim) (paths : List (List ℕ)) (answers : List JobAnswer)
    → AreAnswers m (map job_of paths) answers
    → AreFirstFiles m paths
    (take (position_or_len is_bad_mount (map reply_of answers)) (map reply_of answers))
first_files m [] [] told = tt
first_files m (path ∷ paths) (result ∷ answers) told =
    first_of m path paths (reply_of result) (map reply_of answers) (is_bad_mount (reply_of result)) refl
    (λ t tree.
    elim (told.0 t tree) [ inl bad ↦ inl (ap reply_of bad) | inr shows ↦ inr (bytes_shown result _ shows) ])
    (first_files m paths answers told.1)
first_files m [] (result ∷ answers) told = absurd told
first_files m (path ∷ paths) [] told = absurd told

-- ---- as events of a volume

module _ {S : Type 0} (does : S → Event → Reply → S → Type 0) (mount : ℕ) (m : Claim) where
  pub first_run : (s : S) (paths : List (List ℕ)) (replies : List Reply) → AnswersReads does s mount m
      → AreFirstFiles m paths replies
      → Run does s (take (length replies) (map (reading mount) paths)) replies s
  first_run s paths [] answers files = refl
  first_run s (path ∷ paths) (reply ∷ replies) answers files =
      (s, answers (asked Content path) reply files.0, first_run s paths replies answers files.1)
  first_run s [] (reply ∷ replies) answers files = absurd files

  pub first_fewer : (paths : List (List ℕ)) (replies : List Reply) → AreFirstFiles m paths replies
      → length replies ≤ length paths
  first_fewer paths [] files = omega arith
  first_fewer (path ∷ paths) (reply ∷ replies) files =
      let rest = first_fewer paths replies files.1 in omega arith
  first_fewer [] (reply ∷ replies) files = absurd files

-- ---- runs

module _ {S : Type 0} (does : S → Event → Reply → S → Type 0) where
  -- a run of the first events, and of those behind them
  pub runs_on : (old mid new : S) (events : List Event) (first rest : List Reply)
      → Run does old (take (length first) events) first mid
      → Run does mid (drop (length first) events) rest new → Run does old events (first ++ rest) new
  runs_on old mid new events [] rest run then = subst (λ (s : S). Run does s events rest new) run then
  runs_on old mid new (e ∷ events) (r ∷ first) rest run then =
      (run.0, run.1, runs_on run.0 mid new events first rest run.2 then)
  runs_on old mid new [] (r ∷ first) rest run then = absurd run

  -- behind none, all of them
  pub run_all : (old new : S) (events : List Event) (first rest replies : List Reply) → first ≡ []
      → replies ≡ first ++ rest
      → Run does old (drop (length first) events) rest new → Run does old events replies new
  run_all old new events first rest replies none is run =
      subst (λ (rs : List Reply). Run does old events rs new)
      (sym (is ∙ ap (λ (xs : List Reply). xs ++ rest) none))
      (subst (λ (xs : List Reply). Run does old (drop (length xs) events) rest new) none run)

  -- there are as many replies as events
  pub run_long : (old new : S) (events : List Event) (replies : List Reply) → Run does old events replies new
      → length events ≡ length replies
  run_long old new [] [] run = refl
  run_long old new (e ∷ events) (r ∷ replies) run = ap suc (run_long run.0 new events replies run.2)
  run_long old new [] (r ∷ replies) run = absurd run
  run_long old new (e ∷ events) [] run = absurd run
