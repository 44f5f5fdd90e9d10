-- What sessions do, told as plain files with whole copies.
use Rattle.std.specs.Prelude.{◌≡◌, ◌⊎◌, ℕ, List, [], ◌∷◌, ◌++◌, Option, None, Some, Err}
use Rattle.nl_types.specs.declared.error.VolError.{VolError}
use Rattle.nl_types.specs.declared.error.VolError.TheVariants.{Memory}
use Rattle.nl_types.specs.declared.event.Event.{Event}
use Rattle.nl_types.specs.declared.event.Event.TheVariants.{Mount, MountRead, Unmount}
use Rattle.nl_types.specs.declared.reply.Answer.{Answer}
use Rattle.nl_types.specs.Plain.Calls.{IsUnlessMemory}
use Rattle.nl_types.specs.Plain.Runs.{Run}
use Rattle.nl_types.specs.Plain.Worlds.{Reply, World, mount_read}
use Rattle.nl_protect.specs.declared.config.Config.{Config}
use Rattle.nl_commit.specs.Layout.{DoesIn, Layout, MeansWorld}
use Rattle.nl_commit.specs.Notes.{shared}
use Rattle.nl_cleaner.specs.Job.{JobView, job_after_reply, next_event}
use Rattle.nl_cleaner.specs.Rounds.{cleaning_habits}
use Rattle.nl_publish.specs.Locks.{as_replies, given_back, mount_reply}
use Rattle.nl_script.specs.declared.texts.ends.Done.{Done}
use Rattle.nl_script.specs.Habits.{Habits}
use Rattle.nl_script.specs.Lines.{LineEnd}
use Rattle.nl_script.specs.Scripts.{AreLinesDone, IsScriptDone}
use Rattle.nl_script.specs.Simulations.{IsSimulation}
use Rattle.nlvol.specs.SharedVolumes.{Sharing, shared_does, shared_habits, shared_steps}
use Rattle.nlvol.specs.Sessions.{Printing, RunsOn}
use Rattle.nlvol.specs.SharedLaws.{IsBeside}

-- a shared volume, and a world
pub record VolumeAndWorld : Type 0 where
  pub volume : Sharing
  pub world : World

abbrev pub with_world : Sharing → World → VolumeAndWorld
with_world volume world = record { volume = volume; world = world }

abbrev pub lost_mount : VolumeAndWorld → Option ℕ
lost_mount s = s.volume.held.lost

-- the volume's pen, and the world
abbrev pub pen_and_world : VolumeAndWorld → Layout × World
pen_and_world s = (s.volume.held.layout, s.world)

-- these events, with these replies, lead from one pen and world to others, as the definitions say
abbrev pub Leads : Layout × World → List Event → List Reply → Layout × World → Type 0
Leads old events replies new = Run (DoesIn shared) old events replies new

-- ---- the give-back of a lost mount

-- it is done, where a mount is lost
abbrev pub IsReadyTo : VolumeAndWorld → Layout × World → Type 0
IsReadyTo old begun =
    (backs : List Answer) × Leads (pen_and_world old) (given_back (lost_mount old)) (as_replies backs) begun

-- nothing is done, or just that
abbrev pub StaysTo : VolumeAndWorld → VolumeAndWorld → Type 0
StaysTo old new = (pen_and_world new ≡ pen_and_world old) ⊎ IsReadyTo old (pen_and_world new)

-- or it is refused, and nothing is done
pub record IsHeldBackTo (old new : VolumeAndWorld) : Type 0 where
  pub number : ℕ
  pub error : VolError
  pub was : lost_mount old ≡ Some number
  pub leads : Leads (pen_and_world old) (Unmount number ∷ []) (Err error ∷ []) (pen_and_world new)

-- ---- events

-- the event comes behind the give-back
abbrev pub ComesTo : VolumeAndWorld → Event → Reply → VolumeAndWorld → Type 0
ComesTo old event reply new = (backs : List Answer)
    × Leads (pen_and_world old) (given_back (lost_mount old) ++ event ∷ []) (as_replies backs ++ reply ∷ [])
    (pen_and_world new)

-- The event is done or refused as in the world. Or memory is refused: the event or the give-back didn't come,
-- or it made a mount, which is lost now.
pub data IsDoneTo (old : VolumeAndWorld) (event : Event) (reply : Reply) (new : VolumeAndWorld) : Type 0 where
  Came : ComesTo old event reply new → IsDoneTo old event reply new
  Stayed : reply ≡ Err Memory → StaysTo old new → IsDoneTo old event reply new
  HeldBack : reply ≡ Err Memory → IsHeldBackTo old new → IsDoneTo old event reply new
  MountLost : (checkpoint number : ℕ) → event ≡ Mount checkpoint → reply ≡ Err Memory
      → lost_mount new ≡ Some number
      → ComesTo old event (mount_reply number) new → IsDoneTo old event reply new

-- a read through a mount is told what the mount's copy says, unless memory is refused, and nothing is done
abbrev pub IsReadTo : VolumeAndWorld → Event → Reply → VolumeAndWorld → Type 0
IsReadTo old (MountRead m ask) reply new =
    IsUnlessMemory reply (mount_read old.world m ask) × (pen_and_world new ≡ pen_and_world old)
IsReadTo old event reply new = ⊥

-- the volume does it, and it is answered as in the world, beside whose next one the volume is then
pub record DoesBeside (old : VolumeAndWorld) (event : Event) (reply : Reply)
    (new : VolumeAndWorld) : Type 0 where
  pub does : shared_does old.volume event reply new.volume
  pub told : IsReadTo old event reply new ⊎ IsDoneTo old event reply new
  pub beside : IsBeside new.world new.volume

-- ---- rounds of cleaning

-- The round's next event comes, which is that of the pen behind the give-back. Or that pen has no event left
-- for it, and only then the round ends. Or the give-back is refused, and noted as the event's refusal.
pub data IsSteppedTo (old : VolumeAndWorld) (job : JobView) (reply : Option Reply)
    (new : VolumeAndWorld) (next : JobView) : Type 0 where
  Next : (begun : Layout × World) (event : Event) (answer : Reply) → IsReadyTo old begun
      → next_event job begun.0 ≡ Some event → DoesIn shared begun event answer (pen_and_world new)
      → reply ≡ Some answer → next ≡ job_after_reply job answer → IsSteppedTo old job reply new next
  NoNext : StaysTo old new → next_event job new.volume.held.layout ≡ None → reply ≡ None → next ≡ job
      → IsSteppedTo old job reply new next
  NotBegun : IsHeldBackTo old new → reply ≡ Some (Err Memory) → next ≡ job_after_reply job (Err Memory)
      → IsSteppedTo old job reply new next

pub record StepsBeside (old : VolumeAndWorld) (job : JobView) (reply : Option Reply)
    (new : VolumeAndWorld) (next : JobView) : Type 0 where
  pub steps : shared_steps cleaning_habits old.volume job reply new.volume next
  pub told : IsSteppedTo old job reply new next
  pub beside : IsBeside new.world new.volume

-- ---- sessions

-- what a shared volume does and shows, each event and each step beside a world
abbrev pub world_habits : Habits VolumeAndWorld JobView
world_habits = record {
  does = DoesBeside;
  steps = StepsBeside;
  view = λ s. s.volume.held.layout;
  rounds = cleaning_habits;
}

-- it is this volume, beside its world
pub record IsVolumeBeside (volume : Sharing) (s : VolumeAndWorld) : Type 0 where
  pub volume_is : s.volume ≡ volume
  pub beside : IsBeside s.world volume

-- ---- laws

-- each event of a shared volume that is beside a world, and each step of its rounds, leads to a world that
-- it is beside then
abbrev pub SharedVolumesFollowWorlds : Type 0
SharedVolumesFollowWorlds = IsSimulation (shared_habits cleaning_habits) world_habits IsVolumeBeside

-- So do whatever lines a session does on it: each event, each reply and each text on the way is that of the
-- worlds between.
abbrev pub SessionsFollowWorlds : Type 0
SessionsFollowWorlds =
    (config : Config) (count moment : ℕ) (lines : List (List ℕ)) (old new : Sharing) (ends : List LineEnd)
    (w : World) → IsBeside w old
    → AreLinesDone (shared_habits cleaning_habits) config count moment lines old new ends
    → (after : World) × IsBeside after new
    × AreLinesDone world_habits config count moment lines (with_world old w) (with_world new after) ends

-- A script is done so, from this world on, and what is left means the last one, without its mounts.
pub record IsRunBeside {O : Type 0} {pen left : Layout} {config : Config} {p : Printing O} {done : Done}
    (run : RunsOn pen left config p done) (w : World) : Type 0 where
  pub after : World
  pub beside : IsBeside after run.new
  pub runs : IsScriptDone world_habits config 0 (with_world run.old w) (with_world run.new after) done
      p.input p.contents p.output p.printed
  pub left_means : MeansWorld left (record after { mounts = [] })

-- and so is each script that is run on a pen, from the world that this means
abbrev pub RunsFollowWorlds : (O : Type 0) → Type 0
RunsFollowWorlds O =
    (pen left : Layout) (config : Config) (p : Printing O) (done : Done)
    (run : RunsOn pen left config p done) (w : World) → MeansWorld pen w → IsRunBeside run w
