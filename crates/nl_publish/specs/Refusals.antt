-- How often memory was refused to what is published.
use Rattle.std.specs.Prelude.{ℕ, ◌<◌, ◌≤◌, ◌+◌, ◌^◌, ◌⊎◌}

-- a refusal was counted: the count has risen, or is as high as it gets
pub record HasRefused (old new : ℕ) : Type 0 where
  pub later : old ≤ new
  pub counted : (old < new) ⊎ (2 ^ 64 ≤ new + 1)
