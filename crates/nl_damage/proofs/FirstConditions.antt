-- What fails one of the first two conditions doesn't meet both.
use Rattle.std.proofs.Common.{ℕ, zero, suc, ◌≤◌, List, arith}
use Rattle.nl_image.specs.Conditions.{FirstFails, MeetsFirst}
use Rattle.nl_image.specs.Parts.{Parts}

pub fails-within : (bytes : List ℕ) (n : ℕ) → n ≤ 2 → FirstFails n bytes → (p : Parts) → MeetsFirst 2 bytes p
    → ⊥
fails-within bytes zero most fails p meets = absurd (omega (arith, fails.number))
fails-within bytes (suc zero) most fails p meets = fails.fails p (meets.0, tt)
fails-within bytes (suc (suc zero)) most fails p meets = fails.fails p meets
fails-within bytes (suc (suc (suc n))) most fails p meets = absurd (omega (arith, most))
