-- Lists of events, one after another.
use Rattle.std.specs.Prelude.{◌≡◌, ◌⊎◌, List, [], ◌∷◌, Err}
use Rattle.nl_types.specs.declared.error.VolError.{VolError}
use Rattle.nl_types.specs.declared.error.VolError.TheVariants.{NoSpace, Fault, Memory}
use Rattle.nl_types.specs.declared.event.Event.{Event}
use Rattle.nl_types.specs.declared.event.Event.TheVariants.{Checkpoint, ChangeMode, MountRead, Move, Read, Remove, Resize, Retire, Unmount}
use Rattle.nl_types.specs.Plain.Calls.{ReadTakesMemory}
use Rattle.nl_types.specs.Plain.Worlds.{World, Reply, step}

-- ---- refusals in the place of an event

-- only these change the device
abbrev pub Writes : Event → Type 0
Writes (Checkpoint mode now) = Unit {0}
Writes (Move segment limit now) = Unit {0}
Writes (Resize segments) = Unit {0}
Writes _ = ⊥

-- all but these may take memory
abbrev pub TakesMemory : Event → Type 0
TakesMemory (Read ask) = ReadTakesMemory ask
TakesMemory (MountRead m ask) = ReadTakesMemory ask
TakesMemory (ChangeMode n mode) = ⊥
TakesMemory (Remove n) = ⊥
TakesMemory (Unmount m) = ⊥
TakesMemory (Retire segment) = ⊥
TakesMemory _ = Unit {0}

-- which refusals are allowed in the place of which events
abbrev pub AllowedRefusals : Type 1
AllowedRefusals = Event → VolError → Type 0

-- The refusals that a volume has whose writer is alone. `lacks_space` says of an event that no list of logs
-- fits what it writes, and `fails` that the device failed during it.
abbrev pub unshared_refusals : (lacks_space fails : Event → Type 0) → AllowedRefusals
unshared_refusals lacks_space fails event NoSpace = Writes event × lacks_space event
unshared_refusals lacks_space fails event Fault = Writes event × fails event
unshared_refusals lacks_space fails event Memory = TakesMemory event
unshared_refusals lacks_space fails event _ = ⊥

-- where there is space and the device doesn't fail, memory alone may be refused
abbrev pub memory_alone : AllowedRefusals
memory_alone = unshared_refusals (λ _. ⊥) (λ _. ⊥)

-- the event is refused in its place, and keeps the world
pub record IsRefused (allowed : AllowedRefusals) (old : World) (event : Event) (reply : Reply)
    (new : World) : Type 0 where
  pub error : VolError
  pub reply_is : reply ≡ Err error
  pub may_be : allowed event error
  pub unchanged : new ≡ old

-- ---- steps

-- the event is done whole, or it is refused by what is allowed in its place and keeps the world
abbrev pub Step : (allowed : AllowedRefusals) (cleaned : Reply) → World → Event → Reply → World → Type 0
Step allowed cleaned old event reply new =
    (step cleaned old event ≡ (reply, new)) ⊎ IsRefused allowed old event reply new

-- one step for each event, with its reply, from the first state to the last
abbrev pub Run : {S E R : Type 0} → (S → E → R → S → Type 0) → S → List E → List R → S → Type 0
Run {S = S} Steps old [] [] new = new ≡ old
Run {S = S} Steps old (e ∷ es) (r ∷ rs) new = (mid : S) × Steps old e r mid × Run Steps mid es rs new
Run Steps old [] (r ∷ rs) new = ⊥
Run Steps old (e ∷ es) [] new = ⊥
