-- What placing means, in words that do not speak of one log after another.
use Rattle.std.specs.Prelude.{◌≡◌, ◌≢◌, ℕ, ◌+◌, ◌<◌, ◌≤◌, Bool, true, List, ◌∷◌, ◌++◌, length}
use Rattle.std.specs.List.{AllByRecursion}
use Rattle.nl_types.specs.declared.segment.Log.{Log}
use Rattle.nl_types.specs.Plain.NumberLists.{NoneTwice}
use Rattle.nl_types.specs.Blocks.Segments.{Segments, AreTidy, IsClosed, IsUsed, info_of, clean_segments, used_blocks, total_blocks, with_error}
use Rattle.nl_types.specs.Blocks.Placing.{LogsFit, addresses, with_logs}

-- n blocks of the device that are not used
pub record AreUnused (s : Segments) (n : ℕ) (numbers : List ℕ) : Type 0 where
  pub count : length numbers ≡ n
  pub inside : AllByRecursion (λ b. b < total_blocks s) numbers
  pub unused : AllByRecursion (λ b. IsUsed s b → ⊥) numbers
  pub distinct : NoneTwice numbers

-- at most one list of logs fits
abbrev pub AtMostOneFits : Type 0
AtMostOneFits =
    (s : Segments) (reserve : Bool) (n : ℕ) (a b : List Log) → LogsFit s reserve n a → LogsFit s reserve n b
    → a ≡ b

-- the payload of a list that fits goes to as many blocks, none of which was used
abbrev pub PayloadGoesToUnused : Type 0
PayloadGoesToUnused =
    (s : Segments) (reserve : Bool) (n : ℕ) (logs : List Log) → AreTidy s → LogsFit s reserve n logs
    → AreUnused s n (addresses s.blocks logs)

-- where a list fits, so many blocks were not used
abbrev pub WhatFitsHasRoom : Type 0
WhatFitsHasRoom =
    (s : Segments) (reserve : Bool) (n : ℕ) (logs : List Log) → AreTidy s → LogsFit s reserve n logs
    → n + used_blocks s ≤ total_blocks s

-- where a list fits with reserve, two clean segments stay if two were clean
abbrev pub ReserveStays : Type 0
ReserveStays =
    (s : Segments) (n stamp : ℕ) (logs : List Log) → AreTidy s → LogsFit s true n logs
    → 2 ≤ length (clean_segments s) → 2 ≤ length (clean_segments (with_logs s logs stamp))

-- logs that are written leave tidy segments
abbrev pub WrittenStaysTidy : Type 0
WrittenStaysTidy =
    (s : Segments) (reserve : Bool) (n stamp : ℕ) (logs : List Log) → AreTidy s → LogsFit s reserve n logs
    → AreTidy (with_logs s logs stamp)

-- a closed segment gets no log
abbrev pub ClosedGetNoLog : Type 0
ClosedGetNoLog =
    (s : Segments) (reserve : Bool) (n i : ℕ) (logs : List Log) → AreTidy s → LogsFit s reserve n logs
    → IsClosed s i → AllByRecursion (λ log. log.segment ≢ i) logs

-- a closed segment stays as it is, whatever is written
abbrev pub ClosedStay : Type 0
ClosedStay =
    (s : Segments) (reserve : Bool) (n stamp i : ℕ) (logs : List Log) → AreTidy s → LogsFit s reserve n logs
    → IsClosed s i → info_of (with_logs s logs stamp).each i ≡ info_of s.each i

-- and where the device fails at one of the logs
abbrev pub ClosedStayAtFaults : Type 0
ClosedStayAtFaults =
    (s : Segments) (reserve : Bool) (n stamp i : ℕ) (done left : List Log) (failed : Log) → AreTidy s
    → LogsFit s reserve n (done ++ failed ∷ left) → IsClosed s i
    → info_of (with_error (with_logs s done stamp) failed.segment).each i ≡ info_of s.each i
