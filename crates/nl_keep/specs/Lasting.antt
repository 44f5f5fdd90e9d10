-- What was kept is read again, whatever came between.
use Rattle.std.specs.Prelude.{◌≡◌, ◌⊎◌, ℕ, ◌<◌, ◌≤◌, max, true, false, IsTrue, List, [], ◌∷◌, is_some, None, Some}
use Rattle.std.specs.FinMap.{is_sorted}
use Rattle.std.specs.Ordering.{nat_cmp}
use Rattle.nl_types.specs.declared.event.Event.{Event}
use Rattle.nl_types.specs.declared.event.Event.TheVariants.{Expire, Move, Resize, Retire}
use Rattle.nl_types.specs.Plain.Laws.{TakesOut}
use Rattle.nl_types.specs.Plain.NumberLists.{is_one_of}
use Rattle.nl_types.specs.Plain.Runs.{Run}
use Rattle.nl_types.specs.Plain.Trees.{Tree}
use Rattle.nl_types.specs.Plain.Worlds.{World, Copy, IsWorld, Reply, copy_at, latest, latest_stamp}
use Rattle.nl_keep.specs.Forgotten.{Forgets}
use Rattle.nl_keep.specs.MinorOnes.{RemovesMinor, is_plain_minor_copy}
use Rattle.nl_keep.specs.Stored.{KeepsTree, StoresTree}
use Rattle.nl_keep.specs.Volumes.{Follows}

-- ---- whatever events came

-- each event is done whole, or refused and keeps the world
abbrev pub Steps : World → Event → Reply → World → Type 0
Steps old event reply new = Follows event reply old new

-- no event takes checkpoint n out
abbrev pub NoneTakesOut : ℕ → List Event → List Reply → Type 0
NoneTakesOut n [] [] = Unit {0}
NoneTakesOut n (e ∷ events) (r ∷ replies) = (TakesOut e r n → ⊥) × NoneTakesOut n events replies
NoneTakesOut n [] (r ∷ replies) = Unit {0}
NoneTakesOut n (e ∷ events) [] = Unit {0}

-- a checkpoint that no event takes out is kept with its tree, however many events come
abbrev pub KeptTreesLast : Type 0
KeptTreesLast =
    (old new : World) (events : List Event) (replies : List Reply) (n : ℕ) (tree : Tree)
    → Run Steps old events replies new → NoneTakesOut n events replies
    → KeepsTree n tree old → KeepsTree n tree new

-- A tree that was stored as checkpoint n is what is read of checkpoint n later: after other stores, changes,
-- removals of others, expiries, moves and retirements in any order, as long as none takes n out.
abbrev pub StoredTreesComeBack : Type 0
StoredTreesComeBack =
    (before stored later : World) (moment n : ℕ) (tree read : Tree) (events : List Event)
    (replies : List Reply)
    → StoresTree moment n tree before stored → Run Steps stored events replies later
    → NoneTakesOut n events replies → KeepsTree n read later → read ≡ tree

-- ---- which copies are kept

-- a plain minor copy of the next numbers: where nothing is dirty, it has the current tree
pub record IsMadeByItself (old : World) (n : ℕ) (copy : Copy) : Type 0 where
  pub behind : latest old < n
  pub minor : is_plain_minor_copy copy ≡ true
  pub tree : old.dirty ≡ false → copy.tree ≡ old.tree

-- Each checkpoint stays as it was, but plain minor ones, and what is new the volume made by itself. The
-- latest one has no lower number and no earlier date, nor one that is later than the moment and than all that
-- there were. The current tree, and what keeps a volume from being closed, are as they were.
pub record OnlyTidies (moment : ℕ) (old new : World) : Type 0 where
  pub keeps : (n : ℕ) (copy : Copy) → copy_at old n ≡ Some copy → is_plain_minor_copy copy ≡ false
      → copy_at new n ≡ Some copy
  pub news : (n : ℕ) (copy : Copy) → copy_at new n ≡ Some copy
      → (copy_at old n ≡ Some copy) ⊎ IsMadeByItself old n copy
  pub numbers : latest old ≤ latest new
  pub later : latest_stamp old ≤ latest_stamp new
  pub stamp : latest_stamp new ≤ max moment (latest_stamp old)
  pub tree : new.tree ≡ old.tree
  pub dirty : new.dirty ≡ old.dirty
  pub mounts : new.mounts ≡ old.mounts

-- doing nothing only tidies, and so does what does so twice
abbrev pub TidyingGoesOn : Type 0
TidyingGoesOn =
    (moment : ℕ) (old mid new : World)
    → OnlyTidies moment old old
    × (OnlyTidies moment old mid → OnlyTidies moment mid new → OnlyTidies moment old new)

-- the event moves blocks at a moment that isn't later, frees some or adds some, or is an expiry whose period
-- is longer than all time before it
abbrev pub IsTidying : (moment : ℕ) → Event → Type 0
IsTidying moment (Move segment limit now) = now ≤ moment
IsTidying moment (Retire segment) = Unit {0}
IsTidying moment (Resize segments) = Unit {0}
IsTidying moment (Expire now period) = now < period
IsTidying moment _ = ⊥

-- such events only tidy, done or refused
abbrev pub TidyingEventsOnlyTidy : Type 0
TidyingEventsOnlyTidy =
    (moment : ℕ) (event : Event) (reply : Reply) (old new : World) → IsWorld old → IsTidying moment event
    → Follows event reply old new → OnlyTidies moment old new

-- and so does the removal of minor ones
abbrev pub MinorRemovalsOnlyTidy : Type 0
MinorRemovalsOnlyTidy =
    (moment : ℕ) (old new : World) → IsWorld old → RemovesMinor old new → OnlyTidies moment old new

-- a store keeps each checkpoint as it was
abbrev pub StoresKeepCopies : Type 0
StoresKeepCopies =
    (moment k n : ℕ) (tree : Tree) (copy : Copy) (old new : World)
    → StoresTree moment k tree old new → copy_at old n ≡ Some copy → copy_at new n ≡ Some copy

-- nothing has changed but the copies
pub record ChangesCopiesAlone (old new : World) : Type 0 where
  pub tree : new.tree ≡ old.tree
  pub dirty : new.dirty ≡ old.dirty
  pub mounts : new.mounts ≡ old.mounts
  pub given : new.given ≡ old.given

-- where checkpoints are forgotten, nothing else has changed
abbrev pub ForgetsChangeCopiesAlone : Type 0
ForgetsChangeCopiesAlone =
    (numbers : List ℕ) (old new : World) → Forgets numbers old new → ChangesCopiesAlone old new

-- what is forgotten is gone
abbrev pub ForgottenAreGone : Type 0
ForgottenAreGone =
    (numbers : List ℕ) (n : ℕ) (old new : World)
    → Forgets numbers old new → is_one_of numbers n ≡ true → copy_at new n ≡ None

-- none of them is behind the latest one, which stays the latest
abbrev pub ForgottenAreEarlier : Type 0
ForgottenAreEarlier =
    (numbers : List ℕ) (n : ℕ) (old new : World) → IsTrue (is_sorted nat_cmp old.copies)
    → IsTrue (is_some (copy_at old (latest old))) → Forgets numbers old new
    → (latest new ≡ latest old) × (is_one_of numbers n ≡ true → n ≤ latest old)

-- and each other checkpoint is kept as it was, but plain minor ones
abbrev pub ForgetsKeepOthers : Type 0
ForgetsKeepOthers =
    (numbers : List ℕ) (n : ℕ) (copy : Copy) (old new : World) → IsTrue (is_sorted nat_cmp old.copies)
    → Forgets numbers old new → is_one_of numbers n ≡ false → copy_at old n ≡ Some copy
    → is_plain_minor_copy copy ≡ false → copy_at new n ≡ Some copy
