-- The blocks of a file, and which of them are written where its bytes become others.
use Rattle.std.specs.Prelude.{◌≡◌, ◌≢◌, ℕ, ◌+◌, ◌*◌, ◌<◌, ◌≤◌, Bool, false, not, List, length, take, drop, count_by}
use Rattle.std.specs.Int.{div_ceil}
use Rattle.std.specs.List.{range_with_len}
use Rattle.std.specs.Str.{bytes_eq}
use Rattle.nl_types.specs.declared.event.Change.{Change}
use Rattle.nl_types.specs.declared.event.Change.TheVariants.{Write, Truncate}
use Rattle.nl_types.specs.Plain.Calls.{resized}

-- how many blocks a file of so many bytes has
abbrev pub blocks_in : ℕ → ℕ
blocks_in size = div_ceil size 1024

-- the bytes of a block
abbrev pub block_of : List ℕ → ℕ → List ℕ
block_of bytes k = take 1024 (drop (1024 * k) bytes)

-- whether a block of the new bytes stands in the old ones already, if zeros stand behind their end
abbrev pub block_stands : List ℕ → List ℕ → ℕ → Bool
block_stands old new k = bytes_eq (resized (drop (1024 * k) old) (length (block_of new k))) (block_of new k)

-- how many blocks of the new bytes don't
abbrev pub other_blocks : List ℕ → List ℕ → ℕ
other_blocks old new =
    count_by (λ k. not (block_stands old new k)) (range_with_len 0 (blocks_in (length new)))

-- a write is of whole blocks none of which stands already, and a size that is set is another one
abbrev pub IsOfOtherBlocks : List ℕ → List ℕ → Change → Type 0
IsOfOtherBlocks old new (Write path offset bytes) =
    (first : ℕ) × (offset ≡ 1024 * first)
    × ((k : ℕ) → first ≤ k → 1024 * k < offset + length bytes → block_stands old new k ≡ false)
IsOfOtherBlocks old new (Truncate path size) = size ≢ length old
IsOfOtherBlocks old new _ = Unit {0}
