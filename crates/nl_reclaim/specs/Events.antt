-- What events do to a volume whose needed numbers are counted, in the words of its store and its kept
-- checkpoints.
use Rattle.std.specs.Prelude.{◌≡◌, ◌≢◌, ℕ, ◌+◌, ◌<◌, ◌≤◌, Bool, true, List, All, length}
use Rattle.std.specs.List.{AllPairs}
use Rattle.nl_types.specs.Plain.NumberLists.{NoneTwice, is_one_of}
use Rattle.nl_types.specs.Blocks.Entries.{Entry, is_needed}
use Rattle.nl_types.specs.Blocks.Lifetimes.{IsBounded}
use Rattle.nl_vstore.specs.Batches.{Changes, CanBeTaken}
use Rattle.nl_vstore.specs.Located.{needs}
use Rattle.nl_vstore.specs.Stores.{AreInside, IsMoved, IsStore, IsWritten, Store, capacity, content_in}

-- ---- checkpoints

-- Of the kept checkpoints this is the latest one, and no period ends behind it.
pub record IsLatest (latest : ℕ) (kept : List ℕ) (s : Store) : Type 0 where
  pub there : is_one_of kept latest ≡ true
  pub last : (c : ℕ) → is_one_of kept c ≡ true → c ≤ latest
  pub bounded : IsBounded (content_in s) latest

-- The births and ends were written as the checkpoint next to the latest one. The store could take them, and
-- no number ends twice.
pub record IsNextWritten (checkpoint : ℕ) (changes : Changes) (kept : List ℕ) (old new : Store) : Type 0 where
  pub sound : IsStore old
  pub latest : ℕ
  pub is_latest : IsLatest latest kept old
  pub next : checkpoint ≡ latest + 1
  pub fits : CanBeTaken (capacity old) (content_in old) changes
  pub ends_once : AllPairs (λ a b. a ≢ b) changes.ends
  pub stamp : ℕ
  pub written : IsWritten checkpoint stamp changes old new

-- ---- moves

-- the numbers stand once each in the segment, and are needed
pub record AreNeededIn (s : Store) (test : Entry → Bool) (segment : ℕ) (numbers : List ℕ) : Type 0 where
  pub once : NoneTwice numbers
  pub inside : AreInside s segment numbers
  pub needed : All (λ v. needs test (content_in s) v ≡ true) numbers

-- needed numbers were moved out of the segment where their pages stood
pub record HasMovedNeeded (segment : ℕ) (numbers kept : List ℕ) (old new : Store) : Type 0 where
  pub sound : IsStore old
  pub there : segment < length old.segments.each
  pub needed : AreNeededIn old (is_needed kept) segment numbers
  pub checkpoint : ℕ
  pub stamp : ℕ
  pub moved : IsMoved segment checkpoint stamp numbers old new
