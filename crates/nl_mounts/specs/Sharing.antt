-- What calls of a shared volume come to. Each runs a call under the lock, in a state that other calls may
-- have made.
use Rattle.std.specs.Prelude.{◌≡◌, ◌≢◌, ◌<◌, ◌≤◌, ◌⊎◌, ℕ, false, List, All, IfOk, MatchBool, Option, Result, Ok, Err}
use mathlib.Core.List.{IsPrefix}
use Rattle.nl_types.specs.declared.error.VolError.{VolError}
use Rattle.nl_types.specs.declared.error.VolError.TheVariants.{BadMount, BadRange, Memory}
use Rattle.nl_types.specs.declared.event.Event.{Event}
use Rattle.nl_types.specs.Plain.Worlds.{Reply, World}
use Rattle.nl_commit.specs.Commits.{shown_after}
use Rattle.nl_commit.specs.Layout.{Layout, MeansWorld, layout_of}
use Rattle.nl_commit.specs.Volume.{without_mounts}
use Rattle.nl_commit.specs.Rounds.{RoundHabits}
use Rattle.nl_publish.specs.Begun.{HasBegun}
use Rattle.nl_publish.specs.Cleaning.{CleanRan}
use Rattle.nl_publish.specs.Histories.{Known}
use Rattle.nl_publish.specs.Locks.{HeldPen, IsSoundState, MountReply, MountRan, Ran, told_by}
use Rattle.nl_publish.specs.Mounts.{Claim}
use Rattle.nl_publish.specs.Returns.{IsGivenBack, Returned}
use Rattle.nl_publish.specs.Told.{ShowsCopy}
use Rattle.nl_mounts.specs.declared.shared.ToldReply.{ToldReply}
use Rattle.nl_mounts.specs.Ports.{PortView, fresh}

-- ---- the beginning

-- so many ports may share a volume
abbrev pub IsPortCount : ℕ → Type 0
IsPortCount ports = (0 < ports) × (ports ≤ 32)

-- a volume isn't shared: memory is refused, or there are no such ports
abbrev pub IsShareRefused : (ports : ℕ) → VolError → Type 0
IsShareRefused ports error =
    (IsPortCount ports × (error ≡ Memory)) ⊎ ((IsPortCount ports → ⊥) × (error ≡ BadRange))

-- A volume is shared under an id: its first commit shows all of the pen that was handed in. Each port has seen
-- it, keeps nothing, and has its reader.
pub record IsShared (id : ℕ) (pen : Layout) (volume : ℕ) (ports : List PortView) : Type 0 where
  pub is : volume ≡ id
  pub state : HeldPen
  pub sound : IsSoundState state
  pub begun : HasBegun id pen state
  pub seen : All (λ port. port ≡ fresh (told_by state)) ports

-- ---- events

pub record HasRun (event : Event) (reply : Reply) : Type 0 where
  pub old : HeldPen
  pub new : HeldPen
  pub sound : IsSoundState old
  pub ran : Ran old event reply new

-- a port is of the volume, and has seen no more than is published
pub record IsKnownTo (h : HeldPen) (port : Known) : Type 0 where
  pub volume : port.volume ≡ h.volume
  pub published : IsPrefix port.commits h.published

-- The event ran, and the port knows what is published then, which is all of the history, or not. What lies
-- under the lock is of the volume whose id stands beside it, and knows what its ports have seen; were that not
-- so, memory would be refused, and nothing done.
pub data Tells (old : HeldPen) (port : Known) (event : Event) (told : ToldReply) (new : HeldPen)
    (seen : Known) : Type 0 where
  Came : IsKnownTo old port → Ran old event told.reply new
      → MatchBool told.is_told (new.published ≡ new.history) (new.published ≢ new.history)
      → seen ≡ told_by new → Tells old port event told new seen
  Apart : (IsKnownTo old port → ⊥) → told.reply ≡ Err Memory → told.is_told ≡ false → new ≡ old → seen ≡ port
      → Tells old port event told new seen

pub record HasTold (port : Known) (event : Event) (told : ToldReply) (seen : Known) : Type 0 where
  pub old : HeldPen
  pub new : HeldPen
  pub sound : IsSoundState old
  pub left : IsSoundState new
  pub tells : Tells old port event told new seen

abbrev pub IsForeignReply : ToldReply → Type 0
IsForeignReply told = (told.reply ≡ Err BadMount) × (told.is_told ≡ false)

-- ---- mounts

-- the number of a mount, or why there is none
abbrev pub number_in : Result Claim VolError → MountReply
number_in (Ok m) = Ok m.number
number_in (Err e) = Err e

-- a mount's checkpoint is the copy of its number in a world
abbrev pub MountsCopy : HeldPen → Claim → Type 0
MountsCopy h m = (w : World) → MeansWorld h.layout w → ShowsCopy (shown_after m.told.commits) m.checkpoint w

-- The checkpoint is mounted, and the mount is told of all that is published then; or that is refused. What
-- lies under the lock is as before an event.
pub data MountComes (old : HeldPen) (port : Known) (checkpoint : ℕ) (result : Result Claim VolError)
    (new : HeldPen) : Type 0 where
  Came : IsKnownTo old port → MountRan old checkpoint (number_in result) new
      → IfOk result (MountsCopy new) → IfOk result (λ m. m.told ≡ told_by new)
      → MountComes old port checkpoint result new
  Apart : (IsKnownTo old port → ⊥) → result ≡ Err Memory → new ≡ old
      → MountComes old port checkpoint result new

pub record HasMounted (port : Known) (checkpoint : ℕ) (result : Result Claim VolError) : Type 0 where
  pub old : HeldPen
  pub new : HeldPen
  pub sound : IsSoundState old
  pub comes : MountComes old port checkpoint result new

-- the mount is given back, or that is refused; were it not of the volume under the lock, memory would be
pub data UnmountComes (old : HeldPen) (m : Claim) (result : Returned) (new : HeldPen) : Type 0 where
  Came : m.told.volume ≡ old.volume → IsGivenBack old m result new → UnmountComes old m result new
  Apart : m.told.volume ≢ old.volume → result ≡ Err (Memory, m) → new ≡ old → UnmountComes old m result new

pub record HasUnmounted (m : Claim) (result : Returned) : Type 0 where
  pub old : HeldPen
  pub new : HeldPen
  pub sound : IsSoundState old
  pub comes : UnmountComes old m result new

-- ---- rounds of cleaning, and what is told

pub record HasCleaned {J : Type 0} (rounds : RoundHabits J) (round : J) (reply : Option Reply)
    (now : J) : Type 0 where
  pub old : HeldPen
  pub new : HeldPen
  pub sound : IsSoundState old
  pub ran : CleanRan rounds old round reply new now

-- it is so of some sound state that stood under the lock
pub record InSomeState (Is : HeldPen → Type 0) : Type 0 where
  pub state : HeldPen
  pub sound : IsSoundState state
  pub is : Is state

-- ---- the end

-- the pen holds what it held under the lock, but for its mounts
abbrev pub IsPenBack : Layout → Type 0
IsPenBack pen = InSomeState (λ h. pen ≡ layout_of (without_mounts h.layout.lists) h.layout.store)
