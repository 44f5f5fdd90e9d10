-- What the loops over the blocks of a segment keep.
use Rattle.std.specs.Prelude.{◌≡◌, ℕ, List, take, Option}
use Rattle.nl_vstore.specs.Located.{AreCounted, picked}

-- so many were counted among the first blocks, and the first of them were put aside
pub record AreSeen (f : ℕ → Option ℕ) (b limit position count : ℕ) (first : List ℕ) : Type 0 where
  pub counted : AreCounted f b position count
  pub front : first ≡ take limit (picked f b position)
