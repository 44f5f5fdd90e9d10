-- Pages that readers may read, and the blocks where they stand.
use Rattle.std.specs.Prelude.{◌≡◌, ℕ, true, false, List, [], ◌∷◌, Ok, Some}
use mathlib.Core.List.{IsPrefix}
use Rattle.nl_types.specs.declared.event.Event.TheVariants.{Retire}
use Rattle.nl_types.specs.declared.reply.Answer.{Answer}
use Rattle.nl_types.specs.Blocks.Entries.{Place}
use Rattle.nl_types.specs.Blocks.Segments.{info_of, is_clean}
use Rattle.nl_vstore.specs.Stores.{Store, address_in, device_in, is_inside}
use Rattle.nl_cpfile.specs.Tables.{kept_at}
use Rattle.nl_cpfile.specs.declared.checkpoint.Checkpoint.{Checkpoint}
use Rattle.nl_commit.specs.Commits.{IsHistory, shown_after}
use Rattle.nl_commit.specs.Layout.{reached_by}
use Rattle.nl_commit.specs.Notes.{shown_of}
use Rattle.nl_commit.specs.Shown.{Shown, mounted_on, pages_shown}
use Rattle.nl_commit.specs.declared.commit.Commit.{Commit}
use Rattle.nl_publish.specs.Locks.{Goes, HeldPen, IsSoundState}

-- Who is in a state may read the page under a virtual block number: the state keeps a checkpoint n, and that
-- has the number at a place of its tree. Each mount in a state is of a checkpoint that it keeps.
pub record MayRead (x : Shown) (n v : ℕ) : Type 0 where
  pub checkpoint : Checkpoint
  pub kept : kept_at n x.table ≡ Some checkpoint
  pub place : Place
  pub reached : reached_by (pages_shown x) checkpoint place ≡ Some v

-- Checkpoint n of a state isn't gone in a later one: it is kept there, or a mount of it is still there.
pub data StillHas (x later : Shown) (n : ℕ) : Type 0 where
  IsKept : (c : Checkpoint) → kept_at n later.table ≡ Some c → StillHas x later n
  IsMounted : (m k : ℕ) → mounted_on x m ≡ Some n → mounted_on later m ≡ Some k → StillHas x later n

-- The page stands on the device, at the block of its number. No other number has that block, and the segment
-- where it lies isn't clean, as a freed one is.
pub record Stands (s : Store) (v : ℕ) (page : List ℕ) : Type 0 where
  pub block : ℕ
  pub address : address_in s v ≡ Some block
  pub on_device : device_in s block ≡ Some page
  pub own : (w : ℕ) → address_in s w ≡ Some block → w ≡ v
  pub unfreed : (segment : ℕ) → is_inside s.segments segment (Some block) ≡ true
      → is_clean (info_of s.segments.each segment).state ≡ false

-- ---- the law

-- The state has the page itself. While the pen under the lock still has the checkpoint, the page stands on
-- the device too.
pub record IsReadable (x : Shown) (h : HeldPen) (n v : ℕ) : Type 0 where
  pub page : List ℕ
  pub shown : pages_shown x v ≡ Some page
  pub stands : StillHas x (shown_of h.layout) n → Stands h.layout.store v page

-- So is each page that a reader may read, in whatever state it is that a beginning of the history makes.
abbrev pub ReadPagesStand : Type 0
ReadPagesStand =
    (h : HeldPen) (log : List Commit) (n v : ℕ) → IsSoundState h → IsHistory log → IsPrefix log h.history
    → MayRead (shown_after log) n v → IsReadable (shown_after log) h n v

-- A retirement frees no segment where such a page stands.
abbrev pub RetirementsSpareReadPages : Type 0
RetirementsSpareReadPages =
    (old new : HeldPen) (segment : ℕ) (answer : Answer) (log : List Commit) (n v : ℕ) → IsSoundState old
    → IsHistory log → IsPrefix log old.history → MayRead (shown_after log) n v
    → StillHas (shown_after log) (shown_of old.layout) n
    → Goes old (Retire segment ∷ []) (Ok answer ∷ []) new
    → is_inside old.layout.store.segments segment (address_in old.layout.store v) ≡ false

-- Each later state has the same page under the number: no commit takes it out, or puts another in its place.
abbrev pub ReadPagesStay : Type 0
ReadPagesStay =
    (log later : List Commit) (n v : ℕ) → IsHistory log → IsHistory later → IsPrefix log later
    → MayRead (shown_after log) n v → StillHas (shown_after log) (shown_after later) n
    → pages_shown (shown_after later) v ≡ pages_shown (shown_after log) v
