-- How far the blocks of a file are listed.
use Rattle.std.specs.Prelude.{◌≡◌, ◌⊎◌, ℕ, ◌<◌, List, [], ◌∷◌, ◌++◌, Option, None, Some}
use Rattle.std.specs.List.{AllPairs, Contains}
use Rattle.nl_types.specs.Blocks.Roots.{Pages, Root, place_at}
use Rattle.nl_blocktree.specs.Listed.{StandsBefore}
use Rattle.nl_blocktree.specs.declared.placed.PlacedBlock.{PlacedBlock}

abbrev pub block_at : ℕ → ℕ → ℕ → PlacedBlock
block_at level offset number = record { level = level; offset = offset; number = number }

-- blocks, and behind them the one of a number that there may be
abbrev pub with_block : List PlacedBlock → ℕ → ℕ → Option ℕ → List PlacedBlock
with_block blocks level offset None = blocks
with_block blocks level offset (Some number) = blocks ++ block_at level offset number ∷ []

-- a place is listed before another one
abbrev pub IsBefore : (l o level offset : ℕ) → Type 0
IsBefore l o level offset = (l < level) ⊎ ((l ≡ level) × (o < offset))

-- the blocks before a place are listed
pub record AreBlocksBefore (pages : Pages) (root : Root) (level offset : ℕ)
    (blocks : List PlacedBlock) : Type 0 where
  pub placed : (b : PlacedBlock) → Contains blocks b → place_at pages root b.level b.offset ≡ Some b.number
  pub before : (b : PlacedBlock) → Contains blocks b → IsBefore b.level b.offset level offset
  pub listed : (l o v : ℕ) → IsBefore l o level offset → place_at pages root l o ≡ Some v
      → (b : PlacedBlock) × Contains blocks b × (b.level ≡ l) × (b.offset ≡ o)
  pub in_order : AllPairs StandsBefore blocks
