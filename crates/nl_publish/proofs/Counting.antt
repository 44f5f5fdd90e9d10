-- Counts of refusals.
use Rattle.std.proofs.Common.{ℕ, ◌≡◌, ◌+◌, ◌<◌, ◌≤◌, ◌^◌, ◌⊎◌, Bool, true, false, arith, inl, inr, MatchBool}
use Rattle.nl_publish.specs.Refusals.{HasRefused}

refused_step : (a b c : ℕ) → a ≤ b → (b < c) ⊎ (2 ^ 64 ≤ c + 1) → (a < c) ⊎ (2 ^ 64 ≤ c + 1)
refused_step a b c less (inl more) = inl (omega (arith, less, more))
refused_step a b c less (inr full) = inr full

pub refused_on : (a b c : ℕ) → a ≤ b → HasRefused b c → HasRefused a c
refused_on a b c less refused = record {
  later = omega (arith, less, refused.later);
  counted = refused_step a b c less refused.counted;
}

-- ---- the sum of two counts

left_step : (a b c : ℕ) → (a < b) ⊎ (2 ^ 64 ≤ b + 1) → (a + c < b + c) ⊎ (2 ^ 64 ≤ (b + c) + 1)
left_step a b c (inl more) = inl (omega (arith, more))
left_step a b c (inr full) = inr (omega (arith, full))

pub refused_left : (a b c : ℕ) → HasRefused a b → HasRefused (a + c) (b + c)
refused_left a b c refused = record {
  later = omega (arith, refused.later);
  counted = left_step a b c refused.counted;
}

right_step : (a b c : ℕ) → (a < b) ⊎ (2 ^ 64 ≤ b + 1) → (c + a < c + b) ⊎ (2 ^ 64 ≤ (c + b) + 1)
right_step a b c (inl more) = inl (omega (arith, more))
right_step a b c (inr full) = inr (omega (arith, full))

pub refused_right : (a b c : ℕ) → HasRefused a b → HasRefused (c + a) (c + b)
refused_right a b c refused = record {
  later = omega (arith, refused.later);
  counted = right_step a b c refused.counted;
}

-- ---- what is counted where something is shown

pub counts_on : (a b c : ℕ) (done : Bool) → MatchBool done (b ≡ a) (HasRefused a b) → a + c ≤ b + c
counts_on a b c true same = omega (arith, same)
counts_on a b c false refused = omega (arith, refused.later)
