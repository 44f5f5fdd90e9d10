-- A shared volume as the volume of a script.
use Rattle.std.specs.Prelude.{◌≡◌, ◌⊎◌, ◌==◌, ◌∷◌, ◌++◌, ℕ, Bool, List, [], position, remove, slice_get, Option, None, Some, Ok, Err}
use Rattle.std.specs.Option.{option_and_then}
use Rattle.nl_types.specs.declared.error.VolError.{VolError}
use Rattle.nl_types.specs.declared.error.VolError.TheVariants.{Memory}
use Rattle.nl_types.specs.declared.event.Ask.{Ask}
use Rattle.nl_types.specs.declared.event.Event.{Event}
use Rattle.nl_types.specs.declared.event.Event.TheVariants.{Mount, MountRead, Unmount}
use Rattle.nl_types.specs.Plain.Worlds.{Reply}
use Rattle.nl_commit.specs.Layout.{Layout}
use Rattle.nl_commit.specs.Rounds.{RoundHabits}
use Rattle.nl_publish.specs.Begun.{HasBegun}
use Rattle.nl_publish.specs.Cleaning.{CleanRan}
use Rattle.nl_publish.specs.Locks.{HeldPen, MountRan, Ran, mount_reply}
use Rattle.nl_publish.specs.Mounts.{Claim}
use Rattle.nl_mounts.specs.Sharing.{MountsCopy}
use Rattle.nl_script.specs.FileReads.{IsToldThrough}
use Rattle.nl_script.specs.Habits.{Habits}
use Rattle.nl_script.specs.Rounds.{Steps}

-- what lies under the lock, and the mounts that are held
pub record Sharing : Type 0 where
  pub held : HeldPen
  pub mounts : List Claim

-- it begins as a pen all of which is published, with no mounts
pub record HasBegunShared (id : ℕ) (pen : Layout) (s : Sharing) : Type 0 where
  pub held : HasBegun id pen s.held
  pub mounts : s.mounts ≡ []

-- how many ports read files side by side
abbrev pub reader_count : ℕ
reader_count = 4

abbrev pub is_numbered : ℕ → Claim → Bool
is_numbered m claim = claim.number == m

-- where the mount of a number stands, if it is held
abbrev pub place_of : ℕ → List Claim → Option ℕ
place_of m claims = position (is_numbered m) claims

abbrev pub mount_of : ℕ → List Claim → Option Claim
mount_of m claims = option_and_then (slice_get claims) (place_of m claims)

-- ---- mounts

-- No place is left for the mount, and nothing is done; or the checkpoint is mounted, told of and held; or
-- that is refused.
pub data MountComes (old : Sharing) (checkpoint : ℕ) (reply : Reply) (new : Sharing) : Type 0 where
  NoPlace : reply ≡ Err Memory → new ≡ old → MountComes old checkpoint reply new
  Mounted : (m : Claim) → reply ≡ mount_reply m.number → m.checkpoint ≡ checkpoint
      → m.told ≡ record { volume = new.held.volume; commits = new.held.published }
      → MountRan old.held checkpoint (Ok m.number) new.held → MountsCopy new.held m
      → new.mounts ≡ old.mounts ++ m ∷ [] → MountComes old checkpoint reply new
  Refused : (e : VolError) → reply ≡ Err e → MountRan old.held checkpoint (Err e) new.held
      → new.mounts ≡ old.mounts → MountComes old checkpoint reply new

-- without what stands at a place
abbrev pub removed_at : {A : Type 0} → List A → Option ℕ → List A
removed_at xs None = xs
removed_at xs (Some place) = remove xs place

-- the mounts without that of a number
abbrev pub without_mount : ℕ → List Claim → List Claim
without_mount m claims = removed_at claims (place_of m claims)

-- a mount that is given back is held no more
abbrev pub mounts_left_by : ℕ → Reply → List Claim → List Claim
mounts_left_by m (Ok answer) claims = without_mount m claims
mounts_left_by m (Err e) claims = claims

-- ---- reads through mounts

-- what the tree of the mount says, where it is held
abbrev pub IsHeldTold : Option Claim → Ask → Reply → Type 0
IsHeldTold None ask reply = ⊥
IsHeldTold (Some m) ask reply = IsToldThrough m ask reply

-- the tree of the mount that is held says so, and nothing changes; or the pen is asked
abbrev pub ReadComes : Sharing → (mount : ℕ) → Ask → Reply → Sharing → Type 0
ReadComes old mount ask reply new = (new ≡ old) × IsHeldTold (mount_of mount old.mounts) ask reply
    ⊎ Ran old.held (MountRead mount ask) reply new.held × (new.mounts ≡ old.mounts)

-- ---- what it does

abbrev pub shared_does : Sharing → Event → Reply → Sharing → Type 0
shared_does old (Mount checkpoint) reply new = MountComes old checkpoint reply new
shared_does old (Unmount m) reply new =
    Ran old.held (Unmount m) reply new.held × (new.mounts ≡ mounts_left_by m reply old.mounts)
shared_does old (MountRead m ask) reply new = ReadComes old m ask reply new
shared_does old event reply new = Ran old.held event reply new.held × (new.mounts ≡ old.mounts)

-- ---- rounds of cleaning

-- nothing is left of the round, and nothing is done
abbrev pub IsRoundOver : {J : Type 0} → RoundHabits J → HeldPen → J → Option Reply → HeldPen → J → Type 0
IsRoundOver rounds old round reply new next =
    (rounds.next round old.layout ≡ None) × (reply ≡ None) × (new ≡ old) × (next ≡ round)

-- or its next step is done
abbrev pub IsRoundStep : {J : Type 0} → RoundHabits J → HeldPen → J → Option Reply → HeldPen → J → Type 0
IsRoundStep rounds old round reply new next =
    IsRoundOver rounds old round reply new next ⊎ CleanRan rounds old round reply new next

abbrev pub shared_steps : {J : Type 0} → RoundHabits J → Steps Sharing J
shared_steps rounds old round reply new next =
    IsRoundStep rounds old.held round reply new.held next × (new.mounts ≡ old.mounts)

-- ---- as the volume of a script

-- what a shared volume does and shows, whose rounds go on so
abbrev pub shared_habits : {J : Type 0} → RoundHabits J → Habits Sharing J
shared_habits rounds = record {
  does = shared_does;
  steps = shared_steps rounds;
  view = λ s. s.held.layout;
  rounds = rounds;
}
