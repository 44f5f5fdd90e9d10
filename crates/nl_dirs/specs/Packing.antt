-- The blocks of a directory: records ascend over the whole directory, and each block has as many as fit.
use Rattle.std.specs.Prelude.{◌≡◌, ℕ, ◌<◌, ◌≤◌, ◌+◌, List, [], ◌∷◌, ◌++◌, map}
use Rattle.nl_dirs.specs.declared.record.Record.{Record}
use Rattle.nl_dirs.specs.Records.{packed_block, size_of, sizes}

-- the records block by block: each block is full for the first record of the next
pub data IsPacked : List Record → List (List Record) → Type 0 where
  no_blocks : IsPacked [] []
  last_block : (r : Record) (records : List Record) → sizes (r ∷ records) ≤ 1024 →
      IsPacked (r ∷ records) ((r ∷ records) ∷ [])
  full_block : (r : Record) (records : List Record) (next : Record) (rest : List Record)
      (blocks : List (List Record)) →
      sizes (r ∷ records) ≤ 1024 → 1024 < sizes (r ∷ records) + size_of next →
      IsPacked (next ∷ rest) blocks →
      IsPacked ((r ∷ records) ++ next ∷ rest) ((r ∷ records) ∷ blocks)

-- the blocks are those of these records
pub record Packs (records : List Record) (blocks : List (List ℕ)) : Type 0 where
  pub packed : List (List Record)
  pub is_packed : IsPacked records packed
  pub pages : blocks ≡ map packed_block packed

-- a block that is being filled: these records, one behind the other, and zeros behind them
pub record IsFilled (bytes : List ℕ) (used : ℕ) (records : List Record) : Type 0 where
  pub spelled : bytes ≡ packed_block records
  pub counted : used ≡ sizes records
  pub room : sizes records ≤ 1024
