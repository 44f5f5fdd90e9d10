-- How many payload blocks logs have where they fill a part of a segment.
use Rattle.std.specs.Prelude.{ℕ, ◌+◌, ◌-◌, ◌*◌, ◌/◌, List, length, Option, None, Some}
use Rattle.nl_types.specs.Plain.Limits.{log_limit}
use Rattle.nl_types.specs.declared.segment.Position.{Position}

-- in so many blocks: each log has a summary block, and the payload blocks of one log behind it
abbrev pub payload_in : ℕ → ℕ
payload_in blocks = blocks - (blocks + log_limit) / (log_limit + 1)

-- in a segment of so many blocks, from the place left on
abbrev pub payload_left : ℕ → Option Position → ℕ
payload_left blocks None = 0
payload_left blocks (Some place) = payload_in (blocks - place.block)

-- and in the free segments
abbrev pub room_in : ℕ → Option Position → List ℕ → ℕ
room_in blocks left free = payload_left blocks left + length free * payload_in blocks
