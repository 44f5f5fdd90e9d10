-- What a device holds: for each block number the bytes of a page, or none.
use Rattle.std.specs.Prelude.{◌≡◌, ◌≢◌, ℕ, ◌+◌, ◌<◌, ◌≤◌, List, Option, None}

abbrev pub DevicePages : Type 0
DevicePages = ℕ → Option (List ℕ)

-- nothing anywhere
abbrev pub IsEmpty : DevicePages → Type 0
IsEmpty pages = (b : ℕ) → pages b ≡ None

-- what is at other numbers stays
abbrev pub KeepsOthers : ℕ → DevicePages → DevicePages → Type 0
KeepsOthers number old new = (b : ℕ) → b ≢ number → new b ≡ old b

-- what is at the numbers below one stays
abbrev pub KeepsBelow : ℕ → DevicePages → DevicePages → Type 0
KeepsBelow end old new = (b : ℕ) → b < end → new b ≡ old b

-- so many blocks from a number on are emptied, and all others stay
pub record ClearsBlocks (from count : ℕ) (old new : DevicePages) : Type 0 where
  pub inside : (k : ℕ) → k < count → new (from + k) ≡ None
  pub below : (b : ℕ) → b < from → new b ≡ old b
  pub above : (b : ℕ) → from + count ≤ b → new b ≡ old b

-- the same everywhere
abbrev pub SamePages : DevicePages → DevicePages → Type 0
SamePages old new = (b : ℕ) → new b ≡ old b
