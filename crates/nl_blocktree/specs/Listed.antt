-- All blocks of a file, in the order of their levels.
use Rattle.std.specs.Prelude.{◌≡◌, ◌⊎◌, ℕ, ◌<◌, List, Some}
use Rattle.std.specs.List.{AllPairs, Contains}
use Rattle.nl_types.specs.Blocks.Roots.{Pages, Root, place_at}
use Rattle.nl_blocktree.specs.declared.placed.PlacedBlock.{PlacedBlock}

abbrev pub StandsBefore : PlacedBlock → PlacedBlock → Type 0
StandsBefore a b = (a.level < b.level) ⊎ ((a.level ≡ b.level) × (a.offset < b.offset))

-- the blocks are those at the places of the root, each once: data ascending, then nodes, lowest level first,
-- ascending in each
pub record AreAllBlocks (pages : Pages) (root : Root) (blocks : List PlacedBlock) : Type 0 where
  pub placed : (b : PlacedBlock) → Contains blocks b → place_at pages root b.level b.offset ≡ Some b.number
  pub listed : (level offset v : ℕ) → place_at pages root level offset ≡ Some v
      → (b : PlacedBlock) × Contains blocks b × (b.level ≡ level) × (b.offset ≡ offset)
  pub in_order : AllPairs StandsBefore blocks
