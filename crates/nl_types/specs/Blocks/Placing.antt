-- Where the payload blocks of one event go: into logs, judged as a whole list.
use Rattle.std.specs.Prelude.{◌≡◌, ℕ, suc, zero, ◌+◌, ◌<◌, ◌≤◌, ◌⊎◌, Bool, false, nat_le, if◌then◌else◌, MatchBool, List, [], ◌∷◌, ◌++◌, length, Option, None, Some}
use Rattle.std.specs.List.{AllByRecursion}
use Rattle.nl_types.specs.Plain.Limits.{log_limit}
use Rattle.nl_types.specs.declared.segment.Log.{Log}
use Rattle.nl_types.specs.declared.segment.Position.{Position}
use Rattle.nl_types.specs.Blocks.Segments.{Segments, active_place, lowest_clean, free_segments, block_at, info_of, with_active}

-- where the summary block of a log stands
abbrev pub start_of : Log → Position
start_of log = record { segment = log.segment; block = log.first }

-- the position right behind a log
abbrev pub end_of : Log → ℕ
end_of log = log.first + 1 + log.count

abbrev pub place_behind : Log → Position
place_behind log = record { segment = log.segment; block = end_of log }

-- how many payload blocks the logs have
abbrev pub payload_count : List Log → ℕ
payload_count [] = 0
payload_count (log ∷ logs) = log.count + payload_count logs

-- a log has 1 to 30 payload blocks, and lies in its segment
pub record IsLog (blocks : ℕ) (log : Log) : Type 0 where
  pub some : 1 ≤ log.count
  pub most : log.count ≤ log_limit
  pub inside : end_of log ≤ blocks

-- each log but the last has 30 payload blocks or ends its segment
abbrev pub AreFilled : ℕ → List Log → Type 0
AreFilled blocks [] = Unit {0}
AreFilled blocks (log ∷ []) = Unit {0}
AreFilled blocks (log ∷ next ∷ logs) =
    ((log.count ≡ log_limit) ⊎ (end_of log ≡ blocks)) × AreFilled blocks (next ∷ logs)

-- 2 blocks or more are left from a place on
abbrev pub has_room : ℕ → Option Position → Bool
has_room blocks None = false
has_room blocks (Some place) = nat_le (place.block + 2) blocks

-- Each log begins at the place left by what stands before it, where that has room,
-- and else at block 0 of a segment.
abbrev pub AreInRow : ℕ → Option Position → List Log → Type 0
AreInRow blocks left [] = Unit {0}
AreInRow blocks left (log ∷ logs) =
    MatchBool (has_room blocks left) (left ≡ Some (start_of log)) (log.first ≡ 0)
    × AreInRow blocks (Some (place_behind log)) logs

-- the segments that the logs take: of those with no room before them
abbrev pub taken_segments : ℕ → Option Position → List Log → List ℕ
taken_segments blocks left [] = []
taken_segments blocks left (log ∷ logs) =
    if has_room blocks left then taken_segments blocks (Some (place_behind log)) logs
    else log.segment ∷ taken_segments blocks (Some (place_behind log)) logs

-- the first list is a front of the second
abbrev pub IsFront : List ℕ → List ℕ → Type 0
IsFront [] ys = Unit {0}
IsFront (x ∷ xs) [] = ⊥
IsFront (x ∷ xs) (y ∷ ys) = (x ≡ y) × IsFront xs ys

-- The logs have n payload blocks, and go on from the place left, in segments of so many blocks.
-- They take the first of the free segments, in order.
pub record GoOn (blocks : ℕ) (left : Option Position) (free : List ℕ) (n : ℕ) (logs : List Log) : Type 0 where
  pub each : AllByRecursion (IsLog blocks) logs
  pub total : payload_count logs ≡ n
  pub filled : AreFilled blocks logs
  pub in_row : AreInRow blocks left logs
  pub taken : IsFront (taken_segments blocks left logs) free

-- The list of logs fits n payload blocks: at most one list does. With reserve two clean segments stay.
abbrev pub LogsFit : Segments → Bool → ℕ → List Log → Type 0
LogsFit s reserve n logs = GoOn s.blocks (active_place s) (free_segments reserve s) n logs

-- no list of logs fits
abbrev pub LacksSpace : Segments → Bool → ℕ → Type 0
LacksSpace s reserve n = (logs : List Log) → LogsFit s reserve n logs → ⊥

-- ---- where the blocks of logs are

-- the number of a log's summary block
abbrev pub first_block : ℕ → Log → ℕ
first_block blocks log = block_at blocks (start_of log)

-- the n block numbers from b on
abbrev pub blocks_from : ℕ → ℕ → List ℕ
blocks_from b zero = []
blocks_from b (suc n) = b ∷ blocks_from (suc b) n

-- the numbers of the payload blocks, in order
abbrev pub addresses : ℕ → List Log → List ℕ
addresses blocks [] = []
addresses blocks (log ∷ logs) = blocks_from (first_block blocks log + 1) log.count ++ addresses blocks logs

-- ---- the segments, once logs are written at a moment

abbrev pub with_log : Segments → Log → ℕ → Segments
with_log s log stamp = with_active s log.segment stamp (end_of log)

abbrev pub with_logs : Segments → List Log → ℕ → Segments
with_logs s [] stamp = s
with_logs s (log ∷ logs) stamp = with_logs (with_log s log stamp) logs stamp

-- the log goes right behind the used part of its segment, which is the active one, or else the lowest clean
-- one
pub record IsNextLog (s : Segments) (log : Log) : Type 0 where
  pub segment : log.segment < length s.each
  pub behind_used : log.first ≡ (info_of s.each log.segment).used
  pub is_log : IsLog s.blocks log
  pub at : (active_place s ≡ Some (start_of log)) ⊎ (lowest_clean s ≡ Some log.segment)

-- each log is the next one, as those before it leave the segments
abbrev pub AreNextLogs : Segments → ℕ → List Log → Type 0
AreNextLogs s stamp [] = Unit {0}
AreNextLogs s stamp (log ∷ logs) = IsNextLog s log × AreNextLogs (with_log s log stamp) stamp logs
