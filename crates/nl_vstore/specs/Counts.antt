-- How many needed numbers have their pages in each segment.
use Rattle.std.specs.Prelude.{◌≡◌, ℕ, ◌<◌, if◌then◌else◌, Bool, true, List, length, map, MatchOption, Option, None}
use Rattle.std.specs.List.{range_with_len}
use Rattle.nl_types.specs.Plain.NumberLists.{NoneTwice, is_one_of}
use Rattle.nl_types.specs.Blocks.PartialMaps.{Partial}
use Rattle.nl_types.specs.Blocks.Entries.{Entry}
use Rattle.nl_sufile.specs.BySegment.{count_to}
use Rattle.nl_vstore.specs.Stores.{IsStore, Store, address_in, capacity, content_in, is_inside}
use Rattle.nl_vstore.specs.Located.{needed_count, needed_in, needs}

-- ---- by number

-- the block of each number that is needed
abbrev pub needed_places : Store → (Entry → Bool) → Partial ℕ
needed_places s needed v = if needs needed (content_in s) v then address_in s v else None

-- how many of them stand in a segment
abbrev pub standing : Store → (Entry → Bool) → ℕ → ℕ
standing s needed segment =
    count_to (λ v. is_inside s.segments segment (needed_places s needed v)) (capacity s)

-- that many are found block by block
abbrev pub NeededAreStanding : Type 0
NeededAreStanding = (s : Store) (needed : Entry → Bool) (segment : ℕ) → IsStore s
    → needed_count s needed segment ≡ standing s needed segment

-- the needed numbers of a segment are there once each, and have their pages in it
pub record StandOnce (s : Store) (needed : Entry → Bool) (segment : ℕ) : Type 0 where
  pub once : NoneTwice (needed_in s needed segment)
  pub inside : (v : ℕ) → is_one_of (needed_in s needed segment) v ≡ true
      → is_inside s.segments segment (address_in s v) ≡ true
  pub passes : (v : ℕ) → is_one_of (needed_in s needed segment) v ≡ true
      → needs needed (content_in s) v ≡ true

abbrev pub NeededStandOnce : Type 0
NeededStandOnce = (s : Store) (needed : Entry → Bool) (segment : ℕ) → StandOnce s needed segment

-- ---- by segment

-- how many needed numbers have their pages in each segment
abbrev pub needed_counts : Store → (Entry → Bool) → List ℕ
needed_counts s needed = map (needed_count s needed) (range_with_len 0 (length s.segments.each))

-- the segment, if there is one, is where the page of the number stands
abbrev pub IsSegmentOf : Store → ℕ → Option ℕ → Type 0
IsSegmentOf s v found = MatchOption found (address_in s v ≡ None)
    (λ segment. (segment < length s.segments.each) × (is_inside s.segments segment (address_in s v) ≡ true))
