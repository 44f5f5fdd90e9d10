-- What a port tells without a mount.
use Rattle.std.specs.Prelude.{◌≡◌, ℕ, List, None, MatchResult, Result, Err}
use Rattle.nl_types.specs.declared.error.VolError.{VolError}
use Rattle.nl_types.specs.declared.error.VolError.TheVariants.{Memory, NoCheckpoint}
use Rattle.nl_types.specs.declared.event.Ask.{Ask}
use Rattle.nl_types.specs.declared.row.ListOptions.{ListOptions}
use Rattle.nl_types.specs.declared.row.Row.{Row}
use Rattle.nl_types.specs.Plain.Calls.{IsReadReply, reply_to}
use Rattle.nl_types.specs.Plain.Rows.{listing}
use Rattle.nl_types.specs.Plain.Trees.{Tree}
use Rattle.nl_types.specs.Plain.Worlds.{Reply}
use Rattle.nl_cpfile.specs.Tables.{kept_at, rows}
use Rattle.nl_commit.specs.Commits.{IsHistory, shown_after}
use Rattle.nl_commit.specs.Shown.{Shown}
use Rattle.nl_publish.specs.Histories.{Known}
use Rattle.nl_publish.specs.Told.{TreeOn}
use Rattle.nl_mounts.specs.Ports.{IsSeenOn}

-- a state was entered that a history makes, which goes on from what was seen
pub record HasEntered (old new : Known) (x : Shown) : Type 0 where
  pub seen : IsSeenOn old new
  pub shown : x ≡ shown_after new.commits

-- What a call of a port without a mount comes to. It is refused where it was given no state that is as new as
-- what it has seen. Else the answer is that of the state of one history, which goes on from what was seen, and
-- is what has been seen then.
pub data Visited (old new : Known) (Ungiven Refused : Type 0) (Answers : Shown → Type 0) : Type 0 where
  NotGiven : Ungiven → new ≡ old → Refused → Visited old new Ungiven Refused Answers
  Entered : IsHistory new.commits → Answers (shown_after new.commits) → Visited old new Ungiven Refused Answers

-- the rows of a listing of the kept checkpoints, or want of memory
abbrev pub IsListingOf : ListOptions → Result (List Row) VolError → Shown → Type 0
IsListingOf options result x =
    MatchResult result (λ listed. listed ≡ listing options (rows x.table)) (λ e. e ≡ Memory)

-- what the tree of a kept checkpoint answers, or want of memory where the call may take any; or that the
-- checkpoint isn't kept
pub record IsReadOfKept (n : ℕ) (ask : Ask) (reply : Reply) (x : Shown) : Type 0 where
  pub lacks : kept_at n x.table ≡ None → reply ≡ Err NoCheckpoint
  pub reads : (t : Tree) → TreeOn x n t → IsReadReply ask reply (reply_to t ask)
