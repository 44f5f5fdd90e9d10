-- What a pen holds, its store and device included, and what an event does to it.
use Rattle.std.specs.Prelude.{◌≡◌, ◌⊎◌, ℕ, ◌+◌, ◌<◌, ◌≤◌, List, [], ◌∷◌, true, length, max, take, All, false, Some, Err, MatchResult}
use Rattle.std.specs.Option.{option_map}
use Rattle.nl_types.specs.declared.error.VolError.{VolError}
use Rattle.nl_types.specs.declared.error.VolError.TheVariants.{NoSpace, Fault, Memory}
use Rattle.nl_types.specs.declared.event.Ask.{Ask}
use Rattle.nl_types.specs.declared.event.Event.{Event}
use Rattle.nl_types.specs.declared.event.Mode.{Mode}
use Rattle.nl_types.specs.declared.event.Event.TheVariants as variant
use Rattle.nl_types.specs.declared.event.Event.TheVariants.{Apply, ChangeMode, Checkpoint, Expire, Mount, Move, RemoveRange, Resize, Retire, Unmount}
use Rattle.nl_types.specs.declared.geometry.Geometry.{Geometry}
use Rattle.nl_types.specs.declared.reply.Answer.{Answer}
use Rattle.nl_types.specs.Plain.Calls.{IsReadReply}
use Rattle.nl_types.specs.Blocks.Lifetimes.{Numbers, Ledger, IsLedger, KeepsCovered, EndsOnce, Makes, Forgets, ledger_after_all, blank}
use Rattle.nl_types.specs.Blocks.Entries.{Place}
use Rattle.nl_types.specs.Plain.Limits.{checkpoint_number_limit, inode_file_number}
use Rattle.nl_types.specs.Blocks.Placing.{LacksSpace}
use Rattle.nl_types.specs.Blocks.Roots.{Pages, pages_of}
use Rattle.nl_types.specs.Plain.Worlds.{World, Reply}
use Rattle.nl_types.specs.Plain.Runs.{AllowedRefusals, Step, Run, unshared_refusals}
use Rattle.nl_device.specs.Failures.{Failures}
use Rattle.nl_layout.specs.Root.{root_of}
use Rattle.nl_layout.specs.declared.root.Root.{Root}
use Rattle.nl_vstore.specs.Content.{new_content}
use Rattle.nl_device.specs.Pages.{DevicePages}
use Rattle.nl_vstore.specs.Batches.{Changes, TakeLowestFree, items_of}
use Rattle.nl_vstore.specs.Located.{needed_in}
use Rattle.nl_vstore.specs.Stores.{Store, IsStore, IsWritten, IsFaulted, IsMoveBrokenOff, IsUnread, address_in, content_in, is_inside, new_store}
use Rattle.nl_blocktree.specs.Checkpoints.{WritesWhatDiffers, numbers_of}
use Rattle.nl_blocktree.specs.Numbering.{CanTake}
use Rattle.nl_tree.specs.Held.{Holding}
use Rattle.nl_files.specs.CheckpointRoots.{IsTreeSound, roots_at}
use Rattle.nl_reclaim.specs.Cleaning.{retired}
use Rattle.nl_commit.specs.Changes.{HasChanged}
use Rattle.nl_commit.specs.CleaningEvents.{HasEmptied, HasMovedNothing, HasMovedOut, HasResized, HasResizedNone, LacksSpaceToMove, cleaned_by, needed_by}
use Rattle.nl_commit.specs.Draft.{HasNextNumber, HoldsNow, IsDraftRefusal, SettlesNow}
use Rattle.nl_commit.specs.Means.{StepsWorld, Means, copy_read}
use Rattle.nl_commit.specs.Tables.{blank_lists}
use Rattle.nl_commit.specs.Volume.{IsExpired, IsTakenOut, IsTakenOutRange, Lists, kept_by, latest_root, moved_lists, next_checkpoint, published, with_change, with_checkpoint_mode, with_mount, without_mount}
use Rattle.nl_cpfile.specs.Tables.{kept_at, checkpoint_root}
use Rattle.nl_cpfile.specs.declared.checkpoint.Checkpoint.{Checkpoint as Kept}

pub record Layout : Type 0 where
  pub lists : Lists
  pub store : Store

abbrev pub layout_of : Lists → Store → Layout
layout_of lists store = record { lists = lists; store = store }

-- the pages under the virtual block numbers
abbrev pub layout_pages : Layout → Pages
layout_pages l = pages_of (content_in l.store)

-- the layout means the world
abbrev pub MeansWorld : Layout → World → Type 0
MeansWorld l w = Means (layout_pages l) l.lists w

-- a read of a kept checkpoint answers what its copy does in each world that is meant, or lacks memory where
-- it may take any
abbrev pub ReadsCopy : Layout → (n : ℕ) → Ask → Reply → Type 0
ReadsCopy l n a reply = (w : World) → MeansWorld l w → IsReadReply a reply (copy_read w n a)

-- the number at each place of a checkpoint: of its file of inodes, its directories and its files, nodes and
-- data
abbrev pub reached_by : Pages → Kept → Numbers
reached_by pages c = numbers_of pages (roots_at pages (root_of (checkpoint_root c)))

-- which numbers are in use, and which of them each kept checkpoint reaches
abbrev pub ledger_of : Layout → Ledger
ledger_of l = record {
  content = content_in l.store;
  latest = l.lists.table.latest.number;
  kept = λ c. option_map (reached_by (layout_pages l)) (kept_at c l.lists.table);
}

-- What is true of a pen, but that it means a world. The ledger: what each kept checkpoint reaches is exactly
-- the numbers in use that cover it, each at its one place. The checkpoints' trees are sound, and the latest
-- one is found under its number. The store: each number in use has a block of its own, and the device holds
-- its page there.
pub record IsSoundPen (l : Layout) : Type 0 where
  pub ledger : IsLedger (ledger_of l)
  pub trees_sound : All (λ c. IsTreeSound (layout_pages l) (root_of (checkpoint_root c))) (kept_by l.lists)
  pub latest : kept_at l.lists.table.latest.number l.lists.table ≡ Some l.lists.table.latest
  pub last : l.lists.table.latest.number < checkpoint_number_limit
  pub store : IsStore l.store

-- and what is true of every pen: it means a world too
pub record IsPen (l : Layout) : Type 0 where
  pub world : (w : World) × MeansWorld l w
  pub sound : IsSoundPen l

-- ---- what an event does to the numbers

-- A number keeps its page, its place and its start while a kept checkpoint needs it, and its end changes once
-- at most.
pub record KeepsNumbers (old new : Layout) : Type 0 where
  pub covered : KeepsCovered (ledger_of old) (ledger_of new)
  pub ends : EndsOnce (ledger_of old) (ledger_of new)

-- ---- classes of events

-- these write blocks, free them or add some; the others leave the store
abbrev pub LeavesStore : Event → Type 0
LeavesStore (Checkpoint mode moment) = ⊥
LeavesStore (Move segment limit moment) = ⊥
LeavesStore (Retire segment) = ⊥
LeavesStore (Resize segments) = ⊥
LeavesStore event = Unit {0}

-- ---- what a done event does to the lists and the blocks

-- a batch takes the current tree to a checkpoint of this root, over the latest one
pub record Settled (l : Layout) (root : Root) : Type 0 where
  pub base : Holding
  pub held : Holding
  pub current : HoldsNow (content_in l.store) l.lists base held
  pub changes : Changes
  pub settles : SettlesNow (content_in l.store) l.lists root held changes
  pub fits : CanTake l.store changes

-- what differs between two checkpoints is written: the births stand at exactly the places that differ, in the
-- order of the payload, the file of inodes last; every other place keeps its number, and what has no place
-- any more ends
abbrev pub WritesBetween : Layout → Layout → Changes → Type 0
WritesBetween old new changes = WritesWhatDiffers (layout_pages old) (layout_pages new)
    (roots_at (layout_pages old) (root_of (latest_root old.lists)))
    (roots_at (layout_pages new) (root_of (latest_root new.lists)))
    inode_file_number changes.births changes.ends

-- The current tree was settled and its batch written, as the next checkpoint. What is born has the lowest
-- numbers that are free, in the order of the payload.
pub record HasWrittenCheckpoint (mode : Mode) (moment : ℕ) (old new : Layout) : Type 0 where
  pub left : HasNextNumber old.lists
  pub settled : Settled old (latest_root new.lists)
  pub lowest_free : TakeLowestFree (content_in old.store) [] settled.changes.births
  pub lists : new.lists ≡ published (next_checkpoint mode moment (latest_root new.lists) old.lists) old.lists
  pub written : IsWritten new.lists.table.latest.number new.lists.table.latest.stamp
      settled.changes old.store new.store

-- what differs from the latest checkpoint is written, and nothing else
pub record HasPublished (mode : Mode) (moment : ℕ) (old new : Layout) : Type 0 where
  pub writes : HasWrittenCheckpoint mode moment old new
  pub differs : WritesBetween old new writes.settled.changes

-- a segment was emptied, in which no number stood that a kept checkpoint reaches
pub record HasRetired (segment : ℕ) (answer : Answer) (old new : Layout) : Type 0 where
  pub lists : new.lists ≡ old.lists
  pub emptied : HasEmptied segment answer old.lists old.store new.store
  pub unreached : (c v : ℕ) (q : Place) (numbers : Numbers)
      → (ledger_of old).kept c ≡ Some numbers → numbers q ≡ Some v
      → is_inside old.store.segments segment (address_in old.store v) ≡ false

abbrev pub HasDone : Layout → Event → Answer → Layout → Type 0
HasDone old (Checkpoint mode moment) answer new = HasPublished mode moment old new
HasDone old (Apply change) answer new =
    (new ≡ layout_of (with_change change new.lists.current old.lists) old.store)
    × HasChanged (layout_pages old) change old.lists new.lists
HasDone old (ChangeMode n mode) answer new =
    new ≡ layout_of (with_checkpoint_mode n mode old.lists) old.store
HasDone old (variant.Remove n) answer new =
    IsTakenOut (n ∷ []) old.lists new.lists × (new.store ≡ old.store)
HasDone old (RemoveRange first last) answer new =
    IsTakenOutRange first last answer old.lists new.lists × (new.store ≡ old.store)
HasDone old (Expire now period) answer new =
    IsExpired now period answer old.lists new.lists × (new.store ≡ old.store)
HasDone old (Move segment limit moment) answer new =
    (new.lists ≡ moved_lists moment answer old.lists)
    × HasMovedOut segment limit moment answer old.lists old.store new.store
HasDone old (Retire segment) answer new = HasRetired segment answer old new
HasDone old (Resize segments) answer new =
    (new.lists ≡ old.lists) × HasResized segments answer old.store new.store
HasDone old (Mount n) answer new = new ≡ layout_of (with_mount n old.lists) old.store
HasDone old (Unmount m) answer new = new ≡ layout_of (without_mount m old.lists) old.store
HasDone old event answer new = new ≡ old

-- ---- and a refused one

-- The device failed before all logs with what differs were written, and no number has changed. The checkpoint
-- had a number left: numbers are judged before anything is written.
pub record HasFaulted (moment : ℕ) (old new : Layout) : Type 0 where
  pub left : HasNextNumber old.lists
  pub lists : new.lists ≡ old.lists
  pub root : Root
  pub settled : Settled old root
  pub store : IsFaulted true (old.lists.table.latest.number + 1) moment
      (items_of settled.changes.births) old.store new.store

-- no list of logs fits what differs from the latest checkpoint
pub record LacksSpaceToSettle (l : Layout) : Type 0 where
  pub root : Root
  pub settled : Settled l root
  pub lacks : LacksSpace l.store.segments true (length settled.changes.births)

-- why a checkpoint is refused before anything is written: numbers are judged first, then memory, then space
abbrev pub IsCheckpointRefusal : Layout → VolError → Type 0
IsCheckpointRefusal l NoSpace = HasNextNumber l.lists × LacksSpaceToSettle l
IsCheckpointRefusal l e = IsDraftRefusal l.lists e

-- why a retirement is refused: the segment is judged, or memory is refused to it beside readers
abbrev pub IsRetirementRefusal : Layout → (segment : ℕ) → VolError → Type 0
IsRetirementRefusal l segment Memory = Unit {0}
IsRetirementRefusal l segment e = retired l.store (needed_by l.lists) segment ≡ Err e

abbrev pub HasRefused : Event → VolError → Layout → Layout → Type 0
HasRefused (Checkpoint mode moment) Fault old new =
    HasFaulted (max moment old.lists.table.latest.stamp) old new
HasRefused (Checkpoint mode moment) e old new = (new ≡ old) × IsCheckpointRefusal old e
HasRefused (Move segment limit moment) e old new =
    (new.lists ≡ old.lists) × HasMovedNothing segment limit moment old.lists old.store new.store e
HasRefused (Retire segment) e old new = (new ≡ old) × IsRetirementRefusal old segment e
HasRefused (Resize segments) e old new =
    (new.lists ≡ old.lists) × HasResizedNone segments old.store new.store e
HasRefused event e old new = new ≡ old

abbrev pub Becomes : Layout → Event → Reply → Layout → Type 0
Becomes old event reply new =
    MatchResult reply (λ answer. HasDone old event answer new) (λ e. HasRefused event e old new)

-- ---- a new volume

-- before there is a checkpoint: no number is in use, and all segments are clean
abbrev pub blank_layout : Geometry → DevicePages → Failures → Layout
blank_layout geometry pages failures = layout_of blank_lists (new_store (new_content geometry pages) failures)

-- From there the first checkpoint was written, of the root alone, and then the blank one went. What is born
-- stands at exactly the places that the checkpoint has, under the lowest numbers in the order of the payload.
pub record IsFormatted (geometry : Geometry) (pages : DevicePages) (failures : Failures) (now : ℕ)
    (l : Layout) : Type 0 where
  pub settled : Settled (blank_layout geometry pages failures) (latest_root l.lists)
  pub differs : WritesBetween (blank_layout geometry pages failures) l settled.changes
  pub lowest_free : TakeLowestFree
      (content_in (blank_layout geometry pages failures).store) [] settled.changes.births
  pub written : IsWritten 1 now settled.changes (blank_layout geometry pages failures).store l.store
  pub ledger : ledger_of l
      ≡ ledger_after_all (Makes settled.changes.births settled.changes.ends ∷ Forgets 0 ∷ []) blank

-- ---- refusals in the place of an event

-- no list of logs fits what the event writes
abbrev pub LacksSpaceFor : Layout → Event → Type 0
LacksSpaceFor l (Checkpoint mode moment) = LacksSpaceToSettle l
LacksSpaceFor l (Move segment limit moment) = LacksSpaceToMove l.lists l.store segment limit
LacksSpaceFor l event = ⊥

-- The device failed during the event. A write of it failed though there was space. A move may be ended by a
-- read as well: then no write failed, and nothing changed but that the read is counted. Where a write of it
-- failed, the segment written to is in error, none is active, and the logs before that one stand.
abbrev pub FailsIn : Layout → Layout → Event → Type 0
FailsIn old new (Move segment limit moment) =
    IsUnread old.store new.store
    ⊎ ((LacksSpaceToMove old.lists old.store segment limit → ⊥)
    × IsMoveBrokenOff (old.lists.table.latest.number + 1) moment
    (take limit (needed_in old.store (needed_by old.lists) segment)) old.store new.store)
FailsIn old new event =
    (LacksSpaceFor old event → ⊥)
    × (old.store.failures < new.store.failures) × (old.store.failed.writes < new.store.failed.writes)

-- which refusals are allowed from one layout to the next
abbrev pub AllowedBetween : Type 1
AllowedBetween = Layout → Layout → AllowedRefusals

-- on a pen that no reader shares
abbrev pub unshared : AllowedBetween
unshared old new = unshared_refusals (LacksSpaceFor old) (FailsIn old new)

-- what a move, a retirement or a resize answers, by the layout before it
abbrev pub cleaned : Layout → Event → Reply
cleaned l event = cleaned_by l.lists l.store event

-- ---- the whole

-- from each world that the old layout means, the event leads on to one that the new layout means
abbrev pub StepsWorlds : AllowedBetween → Layout → Event → Reply → Layout → Type 0
StepsWorlds allowed old event reply new = (w : World) → MeansWorld old w
    → StepsWorld (allowed old new) (cleaned old event) w event reply (layout_pages new) new.lists

-- What an event does to a pen. In each world that the pen means, the event is done whole as the definitions
-- say, or it is refused by what is allowed in its place (`follows`). The lists and the blocks become what is
-- due (`becomes`). Numbers keep what they stand for (`numbers`), what is true of every pen still is (`pen`),
-- and how often the device failed is never forgotten (`failures`).
pub record Does (allowed : AllowedBetween) (old : Layout) (event : Event) (reply : Reply)
    (new : Layout) : Type 0 where
  pub follows : StepsWorlds allowed old event reply new
  pub becomes : Becomes old event reply new
  pub numbers : KeepsNumbers old new
  pub pen : IsPen new
  pub failures : old.store.failures ≤ new.store.failures

-- the same beside one world that the pen means
pub record DoesIn (allowed : AllowedBetween) (old : Layout × World) (event : Event) (reply : Reply)
    (new : Layout × World) : Type 0 where
  pub does : Does allowed old.0 event reply new.0
  pub means : MeansWorld new.0 new.1
  pub step : Step (allowed old.0 new.0) (cleaned old.0 event) old.1 event reply new.1

-- from a world, a list of events leads to one that the new pen means
pub record RunsFrom (allowed : AllowedBetween) (w : World) (old : Layout) (events : List Event)
    (replies : List Reply)
    (new : Layout) : Type 0 where
  pub after : World
  pub means : MeansWorld new after
  pub run : Run (DoesIn allowed) (old, w) events replies (new, after)

-- so from whatever world the old pen means
abbrev pub Runs : (allowed : AllowedBetween) → Layout → List Event → List Reply → Layout → Type 0
Runs allowed old events replies new =
    (w : World) → MeansWorld old w → RunsFrom allowed w old events replies new
