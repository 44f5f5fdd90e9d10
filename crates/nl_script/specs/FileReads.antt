-- What is read of files through a mount.
use Rattle.std.specs.Prelude.{◌≡◌, ◌⊎◌, ℕ, Bool, true, false, List, [], ◌∷◌, Ok, Err}
use Rattle.nl_types.specs.declared.error.VolError.TheVariants.{BadMount}
use Rattle.nl_types.specs.declared.event.Ask.{Ask}
use Rattle.nl_types.specs.declared.event.Event.{Event}
use Rattle.nl_types.specs.declared.event.Event.TheVariants.{MountRead}
use Rattle.nl_types.specs.declared.reply.Answer.TheVariants.{Bytes}
use Rattle.nl_types.specs.Plain.Calls.{IsUnlessMemory, reply_to}
use Rattle.nl_types.specs.Plain.Limits.{file_limit}
use Rattle.nl_types.specs.Plain.Trees.{Tree}
use Rattle.nl_types.specs.Plain.Worlds.{Reply}
use Rattle.nl_commands.specs.declared.command.Shown.TheVariants.{Content}
use Rattle.nl_commit.specs.Commits.{shown_after}
use Rattle.nl_publish.specs.Mounts.{Claim}
use Rattle.nl_publish.specs.Told.{TreeOn}
use Rattle.nl_publish.specs.Jobs.{JobAnswer}
use Rattle.nl_publish.specs.declared.many.ReadJob.{ReadJob}
use Rattle.nl_script.specs.Events.{asked}

-- what each tree says that the mount's checkpoint had when it was mounted, unless memory is refused
abbrev pub IsToldThrough : Claim → Ask → Reply → Type 0
IsToldThrough m ask reply =
    (t : Tree) → TreeOn (shown_after m.told.commits) m.checkpoint t → IsUnlessMemory reply (reply_to t ask)

-- a port tells what a tree says, unless memory is refused, or it doesn't find the mount
abbrev pub IsToldBy : Tree → Ask → Reply → Type 0
IsToldBy t ask reply = (reply ≡ Err BadMount) ⊎ IsUnlessMemory reply (reply_to t ask)

-- it does so by each tree that the mount's checkpoint had when it was mounted
abbrev pub IsPortReply : Claim → Ask → Reply → Type 0
IsPortReply m ask reply = (t : Tree) → TreeOn (shown_after m.told.commits) m.checkpoint t → IsToldBy t ask reply

-- it is told that the mount isn't found
abbrev pub is_bad_mount : Reply → Bool
is_bad_mount (Err BadMount) = true
is_bad_mount _ = false

-- the first files, each in its place
abbrev pub AreFirstFiles : Claim → (paths : List (List ℕ)) → List Reply → Type 0
AreFirstFiles m paths [] = Unit {0}
AreFirstFiles m (path ∷ paths) (reply ∷ replies) =
    IsToldThrough m (asked Content path) reply × AreFirstFiles m paths replies
AreFirstFiles m [] (reply ∷ replies) = ⊥

-- what the mount's tree says is what a volume answers to reads of the mount, and nothing changes
abbrev pub AnswersReads : {S : Type 0} → (S → Event → Reply → S → Type 0) → S → (mount : ℕ) → Claim → Type 0
AnswersReads does s mount m =
    (ask : Ask) (reply : Reply) → IsToldThrough m ask reply → does s (MountRead mount ask) reply s

-- a read of a whole file
abbrev pub job_of : List ℕ → ReadJob
job_of path = record { path = path; offset = 0; len = file_limit }

abbrev pub reply_of : JobAnswer → Reply
reply_of (Ok bytes) = Ok (Bytes bytes)
reply_of (Err e) = Err e
