-- What readers see of a pen, and the commits of its events.
use Rattle.std.specs.Prelude.{◌≡◌, ℕ, ◌-◌, ◌||◌, nat_lt, Bool, false, true, List, [], ◌∷◌, ◌++◌, fold, length, map, Ok, MatchResult, Option, Some, None}
use Rattle.std.specs.Option.{option_map, option_map_or}
use Rattle.nl_types.specs.declared.error.VolError.TheVariants as error
use Rattle.nl_types.specs.declared.event.Event.{Event}
use Rattle.nl_types.specs.declared.event.Event.TheVariants as event
use Rattle.nl_types.specs.declared.event.Mode.{Mode}
use Rattle.nl_types.specs.declared.reply.Answer.{Answer}
use Rattle.nl_types.specs.declared.reply.Answer.TheVariants as answer
use Rattle.nl_types.specs.Blocks.Entries.{Birth, period_of}
use Rattle.nl_types.specs.Plain.Worlds.{Reply, is_given_up, is_moving}
use Rattle.nl_cpfile.specs.Tables.{Table, kept_at}
use Rattle.nl_cpfile.specs.declared.checkpoint.Checkpoint.{Checkpoint}
use Rattle.nl_vstore.specs.Batches.{Changes}
use Rattle.nl_vstore.specs.Located.{numbers_in}
use Rattle.nl_vstore.specs.Stores.{Numbered, Store}
use Rattle.nl_commit.specs.Commits.{AllNext, IsShownState, applied}
use Rattle.nl_commit.specs.Layout.{AllowedBetween, Does, HasWrittenCheckpoint, IsPen, Layout, unshared}
use Rattle.nl_commit.specs.Shown.{Shown}
use Rattle.nl_commit.specs.Volume.{Lists, boundary_in}
use Rattle.nl_commit.specs.declared.commit.Commit.{Commit}
use Rattle.nl_commit.specs.declared.commit.Commit.TheVariants.{Freed, GivenBack, ModeSet, Mounted, RangeRemoved, Removed, Resized, Written}
use Rattle.nl_commit.specs.declared.commit.NewPage.{NewPage}
use Rattle.nl_commit.specs.declared.commit.ShownPage.{ShownPage}
use Rattle.nl_commit.specs.declared.commit.Written.{Written as NewCheckpoint}

-- ---- what readers see

-- nothing of where the page belongs, and where it stands
abbrev pub shown_page : Numbered → ShownPage
shown_page n = record { page = n.entry.page; period = period_of n.entry }

abbrev pub shown_of : Layout → Shown
shown_of l = record {
  numbers = map (option_map shown_page) l.store.numbers;
  table = l.lists.table;
  mounts = l.lists.mounts;
  given = l.lists.given;
}

-- ---- refusals beside readers

-- a commit takes memory, so that may be refused to any event
abbrev pub shared : AllowedBetween
shared old new event error.Memory = Unit {0}
shared old new event e = unshared old new event e

-- ---- the commit of an event

abbrev pub new_page : Birth → NewPage
new_page b = record { number = b.number; page = b.page }

-- a checkpoint with what its batch changes
abbrev pub new_checkpoint : Changes → Checkpoint → NewCheckpoint
new_checkpoint changes checkpoint =
    record { births = map new_page changes.births; ends = changes.ends; checkpoint = checkpoint }

-- whether one of the modes is given up for the other
abbrev pub is_other_mode : Mode → Mode → Bool
is_other_mode old new = is_given_up old new || is_given_up new old

-- whether the checkpoint of a number is kept in another mode
abbrev pub has_other_mode : ℕ → Mode → Table → Bool
has_other_mode n mode t = option_map_or (λ (c : Checkpoint). is_other_mode c.mode mode) (kept_at n t) false

-- a commit that is one only where it changes something
abbrev pub where_true : Bool → Commit → List Commit
where_true true c = c ∷ []
where_true false c = []

-- or where something goes
abbrev pub where_any : {A : Type 0} → List A → Commit → List Commit
where_any [] c = []
where_any (x ∷ gone) c = c ∷ []

-- that of a removal, by what it answers to be gone
abbrev pub where_gone : Answer → Commit → List Commit
where_gone (answer.Removed range) c = where_any range.removed c
where_gone (answer.Expired gone) c = where_any gone c
where_gone a c = []

-- that of a mount of a checkpoint, with the number that is answered
abbrev pub mounted_as : Answer → ℕ → List Commit
mounted_as (answer.Mount m) n = Mounted (record { number = m; checkpoint = n }) ∷ []
mounted_as a n = []

-- a checkpoint at which no number starts or ends
abbrev pub without_changes : Checkpoint → Commit
without_changes checkpoint = Written (record { births = []; ends = []; checkpoint = checkpoint })

-- that of a move: nothing is seen of where a page stands, but where blocks were moved there is a checkpoint
-- more
abbrev pub moved_as : Answer → (latest : Checkpoint) → List Commit
moved_as a latest = where_true (is_moving (Ok a)) (without_changes latest)

-- that of a retirement: the numbers whose pages stand in the segment, by block
abbrev pub freed_in : Store → (segment : ℕ) → List Commit
freed_in s segment = where_any (numbers_in s segment) (Freed (numbers_in s segment))

-- ---- the commit of an event that leaves the store

-- a commit that is made only where a condition holds
abbrev pub made_where : Bool → Commit → Option Commit
made_where true c = Some c
made_where false c = None

abbrev pub made : Option Commit → List Commit
made (Some c) = c ∷ []
made None = []

-- the commit that is known before the event; 0 stands for the number of a mount, which the answer tells
abbrev pub known_commit : Lists → Event → Option Commit
known_commit l (event.ChangeMode n mode) = made_where (has_other_mode n mode l.table) (ModeSet n mode)
known_commit l (event.Remove n) = Some (Removed n)
known_commit l (event.RemoveRange first last) = Some (RangeRemoved first last)
known_commit l (event.Expire now period) = Some (RangeRemoved 1 (boundary_in l.table now period - 1))
known_commit l (event.Mount n) = Some (Mounted (record { number = 0; checkpoint = n }))
known_commit l (event.Unmount m) = Some (GivenBack m)
known_commit l event = None

-- what is noted of it once the event has answered
abbrev pub noted_of : Answer → Commit → List Commit
noted_of a (RangeRemoved first last) = where_gone a (RangeRemoved first last)
noted_of a (Mounted mount) = mounted_as a mount.checkpoint
noted_of a c = c ∷ []

abbrev pub noted_by : Answer → Option Commit → List Commit
noted_by a None = []
noted_by a (Some c) = noted_of a c

-- ---- the commit of each event

-- what readers see changes by one commit at most
abbrev pub HasNoted : Layout → Event → Answer → Layout → List Commit → Type 0
HasNoted old (event.Checkpoint mode moment) a new more =
    (writes : HasWrittenCheckpoint mode moment old new)
    × (more ≡ Written (new_checkpoint writes.settled.changes new.lists.table.latest) ∷ [])
HasNoted old (event.Move segment limit moment) a new more = more ≡ moved_as a new.lists.table.latest
HasNoted old (event.Retire segment) a new more = more ≡ freed_in old.store segment
HasNoted old (event.Resize segments) a new more =
    more ≡ where_true (nat_lt (length old.store.segments.each) segments)
    (Resized segments old.store.segments.blocks)
HasNoted old event a new more = more ≡ noted_by a (known_commit old.lists event)

-- the commits of an event: a refused one has none
abbrev pub AreCommitsOf : Layout → Event → Reply → Layout → List Commit → Type 0
AreCommitsOf old event reply new more =
    MatchResult reply (λ a. HasNoted old event a new more) (λ _. more ≡ [])

-- they lead from what readers saw to what they see then, and may follow
pub record IsNoted (old : Layout) (event : Event) (reply : Reply) (new : Layout)
    (more : List Commit) : Type 0 where
  pub commits : AreCommitsOf old event reply new more
  pub state : shown_of new ≡ fold applied (shown_of old) more
  pub next : AllNext (shown_of old) more

-- what an event does to a pen is noted by its commits
abbrev pub CommitsTellAll : AllowedBetween → Type 0
CommitsTellAll allowed =
    (old new : Layout) (event : Event) (reply : Reply) (more : List Commit) → IsPen old
    → Does allowed old event reply new → AreCommitsOf old event reply new more
    → IsNoted old event reply new more

-- ---- events, beside readers or not

-- what may be refused, where readers are told and where they aren't
abbrev pub allowed_where : (told : Bool) → AllowedBetween
allowed_where true = shared
allowed_where false = unshared

-- what is noted of commits
abbrev pub told_where : (told : Bool) → List Commit → List Commit
told_where true more = more
told_where false more = []

-- An event is done. Its commits tell all of it; where readers are told, they are noted behind those before,
-- and memory may be refused to any event.
pub record DoesTelling (told : Bool) (old : Layout) (event : Event) (reply : Reply) (new : Layout)
    (before after : List Commit) : Type 0 where
  pub does : Does (allowed_where told) old event reply new
  pub more : List Commit
  pub behind : after ≡ before ++ told_where told more
  pub noted : IsNoted old event reply new more

-- so beside readers
abbrev pub DoesNoting : Layout → Event → Reply → Layout → (before after : List Commit) → Type 0
DoesNoting old event reply new before after = DoesTelling true old event reply new before after

-- ---- laws

-- what readers see of a pen is a state
abbrev pub PensShowStates : Type 0
PensShowStates = (l : Layout) → IsPen l → IsShownState (shown_of l)
