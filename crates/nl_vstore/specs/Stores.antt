-- What a store of numbered pages holds, and what its calls do to it.
use Rattle.std.specs.Prelude.{◌≡◌, ◌⊎◌, All, ℕ, ◌+◌, ◌*◌, ◌<◌, ◌≤◌, if◌then◌else◌, Bool, true, false, List, length, map, replicate, slice_index_or, Option, None, Some}
use Rattle.std.specs.List.{range_with_len}
use Rattle.std.specs.Option.{option_map}
use Rattle.nl_types.specs.declared.error.VolError.{VolError}
use Rattle.nl_types.specs.declared.error.VolError.TheVariants.{NoSpace, Fault, Memory}
use Rattle.nl_types.specs.Blocks.Segments.{HaveLogs, IsUsed, Segments, grown_to, total_blocks}
use Rattle.nl_types.specs.Blocks.Placing.{LacksSpace}
use Rattle.nl_types.specs.Plain.NumberLists.{is_one_of, NoneTwice}
use Rattle.nl_types.specs.Blocks.PartialMaps.{Partial, put_each, adjust_each}
use Rattle.nl_types.specs.Blocks.Entries.{Birth, Entry, Content, number_of, written}
use Rattle.nl_device.specs.Failures.{Failures, failure_count}
use Rattle.nl_layout.specs.declared.tag.Tag.{Tag}
use Rattle.nl_sufile.specs.BySegment.{lies_in}
use Rattle.nl_sufile.specs.Table.{IsSegTable}
use Rattle.nl_vstore.specs.Content.{SpaceContent, Payload, HoldsOnlyUsed, KeepsUsed, IsFreed, payload_tag}
use Rattle.nl_vstore.specs.Logs.{AreWholeLogs}
use Rattle.nl_vstore.specs.Appended.{IsAppended, IsBrokenOff}
use Rattle.nl_vstore.specs.Batches.{Changes, is_taken, items_of, tag_for}

-- what a number in use stands for, and the block where its page is now
pub record Numbered : Type 0 where
  pub entry : Entry
  pub block : ℕ

pub record Store : Type 0 where
  -- by virtual block number
  pub numbers : List (Option Numbered)
  pub segments : Segments
  -- the pages on the device, by block number
  pub device : List (Option (List ℕ))
  -- the payload of all logs by block number, each with what its log's summary says of it
  pub payload : List (Option Payload)
  -- how often the device has failed
  pub failures : ℕ
  -- and how often of it in a read, and in a write
  pub failed : Failures

-- a store over a space, with no number in use
abbrev pub new_store : SpaceContent → Failures → Store
new_store space failed = record {
  numbers = replicate (total_blocks space.segments + 1) None;
  segments = space.segments;
  device = map space.stored (range_with_len 0 (total_blocks space.segments));
  payload = map space.held (range_with_len 0 (total_blocks space.segments));
  failures = failure_count failed;
  failed = failed;
}

abbrev pub numbered_in : Store → Partial Numbered
numbered_in s v = slice_index_or s.numbers v None

abbrev pub entry_now : Numbered → Entry
entry_now n = n.entry

abbrev pub block_now : Numbered → ℕ
block_now n = n.block

-- what each number in use stands for
abbrev pub content_in : Store → Content
content_in s v = option_map entry_now (numbered_in s v)

-- the block of each number in use
abbrev pub address_in : Store → Partial ℕ
address_in s v = option_map block_now (numbered_in s v)

-- how many numbers there are: 1 to this
abbrev pub capacity : Store → ℕ
capacity s = total_blocks s.segments

-- ---- logs

-- what the device has at a block
abbrev pub device_in : Store → Partial (List ℕ)
device_in s b = slice_index_or s.device b None

-- the payload at a block
abbrev pub payload_in : Store → Partial Payload
payload_in s b = slice_index_or s.payload b None

-- what the summary of its log says of a payload block
abbrev pub tag_in : Store → Partial Tag
tag_in s b = option_map payload_tag (payload_in s b)

-- a store as the space that it lies in
abbrev pub space_in : Store → SpaceContent
space_in s = record { segments = s.segments; held = payload_in s; stored = device_in s }

-- the payload that is written for a number
abbrev pub payload_for : ℕ → Entry → Payload
payload_for v e = (tag_for v e.place, e.page)

abbrev pub payload_under : Store → Partial Payload
payload_under s v = option_map (payload_for v) (content_in s v)

-- the number of the block at a position of a segment
abbrev pub block_in : Store → ℕ → ℕ → ℕ
block_in s segment position = segment * s.segments.blocks + position

-- every number that there is, is in use or given to a birth
abbrev pub HasNoneFree : Store → List Birth → Type 0
HasNoneFree s births = (v : ℕ) → 1 ≤ v → v ≤ capacity s → is_taken (content_in s) births v ≡ true

-- ---- what is true of every store

-- There is a place for each number, and for 0, which is never used. Each number in use has a used block of
-- its own, where the device holds its page, and its log's summary tells its number and place. The used part
-- of each segment is whole logs, and no other block has payload. The segments are tidy, and within the limits
-- of a volume. Each failure of the device is one of a read or one of a write.
pub record IsStore (s : Store) : Type 0 where
  pub full : length s.numbers ≡ capacity s + 1
  pub numbers : (v b : ℕ) → address_in s v ≡ Some b → (1 ≤ v) × (v ≤ capacity s)
  pub used : (v b : ℕ) → address_in s v ≡ Some b → IsUsed s.segments b
  pub apart : (v w b : ℕ) → address_in s v ≡ Some b → address_in s w ≡ Some b → v ≡ w
  pub on_device : (v : ℕ) (n : Numbered) → numbered_in s v ≡ Some n → device_in s n.block ≡ Some n.entry.page
  pub own_payload : (v : ℕ) (n : Numbered) → numbered_in s v ≡ Some n
      → payload_in s n.block ≡ Some (payload_for v n.entry)
  pub whole_logs : AreWholeLogs (space_in s)
  pub only_used : HoldsOnlyUsed (space_in s)
  pub have_logs : HaveLogs s.segments
  pub limits : IsSegTable s.segments
  pub adds_up : s.failures ≡ failure_count s.failed

-- a store, and that all this is true of it
pub record SoundStore : Type 0 where
  pub store : Store
  pub sound : IsStore store

-- ---- segments

-- whether the block, if there is one, lies in the segment
abbrev pub is_inside : Segments → (segment : ℕ) → Option ℕ → Bool
is_inside s segment block = lies_in s.blocks segment block

-- the pages of all the numbers stand in the segment
abbrev pub AreInside : Store → ℕ → List ℕ → Type 0
AreInside s segment numbers = All (λ v. is_inside s.segments segment (address_in s v) ≡ true) numbers

-- what is left of the numbers whose block is not in the segment
abbrev pub left_outside : {X : Type 0} → Segments → ℕ → Partial ℕ → Partial X → Partial X
left_outside s segment address m v = if is_inside s segment (address v) then None else m v

-- ---- what the calls do

-- The births are written in logs of this moment and checkpoint number, and stand at the blocks that placing
-- gives, in their order. Numbers end, and all else stays where it was. The device did not fail.
pub record IsWritten (checkpoint stamp : ℕ) (changes : Changes) (old new : Store) : Type 0 where
  pub content : content_in new ≡ written changes.births changes.ends checkpoint (content_in old)
  pub at : List ℕ
  pub appended : IsAppended (space_in old) (space_in new) true stamp checkpoint (items_of changes.births) at
  pub address : address_in new ≡ put_each number_of (λ b. b) changes.births at (address_in old)
  pub unfailed : new.failed ≡ old.failed

-- the block that a number is moved to, in place of its old one
abbrev pub moved_to : ℕ → ℕ → ℕ
moved_to new old = new

-- A write of the device failed before all logs with the payload were written. Those before it stand, and what
-- was used stays as it was. No number has changed.
pub record IsFaulted (reserve : Bool) (checkpoint stamp : ℕ) (payload : List Payload)
    (old new : Store) : Type 0 where
  pub failures : old.failures < new.failures
  pub writes : old.failed.writes < new.failed.writes
  pub numbers : new.numbers ≡ old.numbers
  pub broken_off : IsBrokenOff (space_in old) (space_in new) reserve stamp checkpoint payload
  pub used_stay : KeepsUsed old.segments (space_in old) (space_in new)

-- why a batch is not written, and what is left then
abbrev pub IsWriteRefused : ℕ → ℕ → Changes → Store → Store → VolError → Type 0
IsWriteRefused checkpoint stamp changes old new NoSpace =
    LacksSpace old.segments true (length changes.births) × (new ≡ old)
IsWriteRefused checkpoint stamp changes old new Memory = new ≡ old
IsWriteRefused checkpoint stamp changes old new Fault =
    IsFaulted true checkpoint stamp (items_of changes.births) old new
IsWriteRefused checkpoint stamp changes old new e = ⊥

-- the payload is that of the numbers, in their order
abbrev pub IsPayloadOf : Store → List ℕ → List Payload → Type 0
IsPayloadOf s numbers payload = map (payload_under s) numbers ≡ map Some payload

-- The payload of numbers is written anew in logs of this moment and checkpoint number, at the blocks that
-- placing gives, in their order, outside of the segment. All else stays where it was, and what numbers stand
-- for stays. Only the failed reads of the device may be more.
pub record IsMoved (segment checkpoint stamp : ℕ) (numbers : List ℕ) (old new : Store) : Type 0 where
  pub content : content_in new ≡ content_in old
  pub payload : List Payload
  pub theirs : IsPayloadOf old numbers payload
  pub at : List ℕ
  pub appended : IsAppended (space_in old) (space_in new) false stamp checkpoint payload at
  pub address : address_in new ≡ adjust_each moved_to numbers at (address_in old)
  pub out : All (λ v. is_inside old.segments segment (address_in new v) ≡ false) numbers
  pub writes : new.failed.writes ≡ old.failed.writes

-- all that is stored is as before; only the failed reads of the device may be more
pub record KeepsStored (old new : Store) : Type 0 where
  pub numbers : new.numbers ≡ old.numbers
  pub segments : new.segments ≡ old.segments
  pub device : new.device ≡ old.device
  pub payload : new.payload ≡ old.payload
  pub writes : new.failed.writes ≡ old.failed.writes

-- A read of the device failed, and nothing else changes.
pub record IsUnread (old new : Store) : Type 0 where
  pub failures : old.failures < new.failures
  pub reads : old.failed.reads < new.failed.reads
  pub stored_stays : KeepsStored old new

-- a write failed while the payload of these numbers was moved
abbrev pub IsMoveBrokenOff : ℕ → ℕ → List ℕ → Store → Store → Type 0
IsMoveBrokenOff checkpoint stamp numbers old new =
    (payload : List Payload) × IsPayloadOf old numbers payload
    × IsFaulted false checkpoint stamp payload old new

-- a fault comes of a read or of a write: the failed writes tell which
abbrev pub IsMoveFaulted : ℕ → ℕ → List ℕ → Store → Store → Type 0
IsMoveFaulted checkpoint stamp numbers old new =
    IsUnread old new ⊎ IsMoveBrokenOff checkpoint stamp numbers old new

-- why numbers are not moved, and what is left then
abbrev pub IsMoveRefused : ℕ → ℕ → List ℕ → Store → Store → VolError → Type 0
IsMoveRefused checkpoint stamp numbers old new NoSpace =
    LacksSpace old.segments false (length numbers) × KeepsStored old new
IsMoveRefused checkpoint stamp numbers old new Memory = KeepsStored old new
IsMoveRefused checkpoint stamp numbers old new Fault = IsMoveFaulted checkpoint stamp numbers old new
IsMoveRefused checkpoint stamp numbers old new e = ⊥

-- The segment is clean and empty. The numbers whose page stood in it are taken out, and counted; all others
-- stay as they were, and so do all other blocks.
pub record IsReclaimed (segment count : ℕ) (old new : Store) : Type 0 where
  pub numbers : (v : ℕ)
      → numbered_in new v ≡ left_outside old.segments segment (address_in old) (numbered_in old) v
  pub freed : IsFreed segment (space_in old) (space_in new)
  pub gone : List ℕ
  pub each_once : NoneTwice gone
  pub gone_are : (v : ℕ) → is_one_of gone v ≡ is_inside old.segments segment (address_in old v)
  pub count_is : count ≡ length gone

-- The segments are grown, and there are as many numbers as blocks. Each number stands for what it stood for,
-- at its block; memory and the used blocks of the device have what they had. The device did not fail.
pub record HasGrown (count : ℕ) (old new : Store) : Type 0 where
  pub segments : new.segments ≡ grown_to count old.segments
  pub numbers : (v : ℕ) → numbered_in new v ≡ numbered_in old v
  pub payload : (b : ℕ) → payload_in new b ≡ payload_in old b
  pub device : (b : ℕ) → IsUsed old.segments b → device_in new b ≡ device_in old b
  pub unfailed : new.failed ≡ old.failed

-- all that is stored is as before; only the failures of the device may be more
pub record StaysStored (old new : Store) : Type 0 where
  pub numbers : new.numbers ≡ old.numbers
  pub segments : new.segments ≡ old.segments
  pub device : new.device ≡ old.device
  pub payload : new.payload ≡ old.payload

-- why a store doesn't grow, and what is left then
abbrev pub IsGrowthRefused : Store → Store → VolError → Type 0
IsGrowthRefused old new Fault =
    (old.failures < new.failures) × (old.failed.writes < new.failed.writes) × StaysStored old new
IsGrowthRefused old new Memory = new ≡ old
IsGrowthRefused old new e = ⊥
