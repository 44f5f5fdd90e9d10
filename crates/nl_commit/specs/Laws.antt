-- What the pen's definitions mean.
use Rattle.std.specs.Prelude.{◌≡◌, ◌≢◌, ◌⊎◌, ℕ, List, Ok, Err, length, map}
use Rattle.nl_types.specs.declared.error.VolError.{VolError}
use Rattle.nl_types.specs.declared.error.VolError.TheVariants.{NoSpace, Fault, Memory}
use Rattle.nl_types.specs.declared.event.Event.{Event}
use Rattle.nl_types.specs.declared.event.Event.TheVariants.{Checkpoint, Expire, Move, RemoveRange, Retire}
use Rattle.nl_types.specs.declared.event.Mode.{Mode}
use Rattle.nl_types.specs.declared.reply.Answer.TheVariants.{Expired, Removed}
use Rattle.nl_types.specs.declared.row.Range.{Range}
use Rattle.nl_types.specs.Plain.Laws.{IsJudged}
use Rattle.nl_types.specs.Blocks.Lifetimes.{EachAllowed, Forgets, ledger_after_all}
use Rattle.nl_types.specs.Blocks.Roots.{Pages}
use Rattle.nl_types.specs.Plain.Worlds.{World, Reply}
use Rattle.nl_types.specs.Plain.Runs.{Run, TakesMemory}
use Rattle.nl_commit.specs.Volume.{Lists}
use Rattle.nl_layout.specs.declared.root.Root.{Root}
use Rattle.nl_vstore.specs.Stores.{KeepsStored}
use Rattle.nl_commit.specs.Means.{Means}
use Rattle.nl_commit.specs.Layout.{AllowedBetween, IsPen, Layout, Does, DoesIn, LacksSpaceFor, MeansWorld, Runs, Settled, ledger_of, unshared}

-- what a pen holds means one world at most
abbrev pub MeansOneWorld : Type 0
MeansOneWorld =
    (pages : Pages) (l : Lists) (w other : World) → Means pages l w → Means pages l other → w ≡ other

-- what an event does to a pen, it does beside each world that the pen means
abbrev pub EventsLeadOn : AllowedBetween → Type 0
EventsLeadOn allowed =
    (old new : Layout) (event : Event) (reply : Reply) (w : World)
    → Does allowed old event reply new → MeansWorld old w
    → (after : World) × DoesIn allowed (old, w) event reply (new, after)

-- and so does a list of events
abbrev pub RunsLeadOn : AllowedBetween → Type 0
RunsLeadOn allowed =
    (old new : Layout) (events : List Event) (replies : List Reply)
    → Run (Does allowed) old events replies new → Runs allowed old events replies new

-- all is as it was; reads that failed in a move may have been counted
abbrev pub IsAsBefore : Event → Layout → Layout → Type 0
IsAsBefore (Move segment limit moment) old new = (new.lists ≡ old.lists) × KeepsStored old.store new.store
IsAsBefore event old new = new ≡ old

-- a refusal but for a fault leaves the pen and its device as they were
abbrev pub RefusalsKeepPens : AllowedBetween → Type 0
RefusalsKeepPens allowed =
    (old new : Layout) (event : Event) (e : VolError)
    → Does allowed old event (Err e) new → (e ≢ Fault) → IsAsBefore event old new

-- the writes that fail during these are told: a retirement empties a segment, and nobody hears how that went
abbrev pub TellsOfWrites : Event → Type 0
TellsOfWrites (Retire segment) = ⊥
TellsOfWrites event = Unit {0}

-- their answer is a fault, or no write of the device failed
abbrev pub FailedWritesAreTold : AllowedBetween → Type 0
FailedWritesAreTold allowed =
    (old new : Layout) (event : Event) (reply : Reply)
    → TellsOfWrites event → Does allowed old event reply new
    → (reply ≡ Err Fault) ⊎ (new.store.failed.writes ≡ old.store.failed.writes)

-- a refusal is judged by the world, or it has the reason for which it is allowed
abbrev pub RefusalsHaveReasons : AllowedBetween → Type 0
RefusalsHaveReasons allowed =
    (old new : Layout) (event : Event) (e : VolError)
    → IsPen old → Does allowed old event (Err e) new → IsJudged e ⊎ allowed old new event e

-- a checkpoint is refused for space only where no list of logs fits what it writes
abbrev pub NoSpaceIsTrue : AllowedBetween → Type 0
NoSpaceIsTrue allowed =
    (old new : Layout) (mode : Mode) (moment : ℕ)
    → Does allowed old (Checkpoint mode moment) (Err NoSpace) new → LacksSpaceFor old (Checkpoint mode moment)

-- and where none fits, it is neither done nor ended by a fault
abbrev pub NoSpaceIsSaid : AllowedBetween → Type 0
NoSpaceIsSaid allowed =
    (old new : Layout) (mode : Mode) (moment : ℕ) (reply : Reply)
    → IsPen old → LacksSpaceFor old (Checkpoint mode moment)
    → Does allowed old (Checkpoint mode moment) reply new
    → (e : VolError) × (reply ≡ Err e) × (e ≢ Fault)

-- memory is refused only to events that take it
abbrev pub MemoryIsTaken : Type 0
MemoryIsTaken =
    (old new : Layout) (event : Event) → IsPen old → Does unshared old event (Err Memory) new
    → TakesMemory event

-- a removal of a range leaves the ledger that removals of the answered numbers leave, one after another
abbrev pub RangesGoOneByOne : AllowedBetween → Type 0
RangesGoOneByOne allowed =
    (old new : Layout) (first last : ℕ) (range : Range)
    → Does allowed old (RemoveRange first last) (Ok (Removed range)) new
    → EachAllowed (map Forgets range.removed) (ledger_of old)
    × (ledger_of new ≡ ledger_after_all (map Forgets range.removed) (ledger_of old))

-- and so does an expiry
abbrev pub ExpiriesGoOneByOne : AllowedBetween → Type 0
ExpiriesGoOneByOne allowed =
    (old new : Layout) (now period : ℕ) (gone : List ℕ)
    → Does allowed old (Expire now period) (Ok (Expired gone)) new
    → EachAllowed (map Forgets gone) (ledger_of old)
    × (ledger_of new ≡ ledger_after_all (map Forgets gone) (ledger_of old))

-- whatever takes the current tree to a checkpoint writes as many blocks, and gives one root: so space is
-- judged by what the pen holds
abbrev pub SettlingsAreAlike : Type 0
SettlingsAreAlike =
    (l : Layout) (root other : Root) → IsPen l → (one : Settled l root) → (two : Settled l other)
    → (other ≡ root) × (length two.changes.births ≡ length one.changes.births)
