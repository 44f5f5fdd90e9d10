-- The block of a node: its slots, one after the other, each a number in 8 bytes in little endian.
use Rattle.std.specs.Prelude.{◌≡◌, ℕ, zero, suc, ◌<◌, ◌^◌, List, [], ◌∷◌, length, drop, flat_map, All}
use Rattle.byteorder.specs.Endian.{little_bytes, little_number}

abbrev pub slots_bytes : List ℕ → List ℕ
slots_bytes slots = flat_map (little_bytes 8) slots

-- the bytes are the spelling of the node with these slots
pub record Spells (bytes slots : List ℕ) : Type 0 where
  pub count : length slots ≡ 128
  pub fit : All (λ number. number < 2 ^ 64) slots
  pub spelling : bytes ≡ slots_bytes slots

-- the numbers in so many slots, from the front of the bytes
abbrev pub slots_at : ℕ → List ℕ → List ℕ
slots_at zero bytes = []
slots_at (suc n) bytes = little_number 8 bytes ∷ slots_at n (drop 8 bytes)
