-- Which checkpoints are among the last.
use Rattle.std.proofs.Common.{◌≡◌, ℕ, zero, suc, Bool, true, false, ◌||◌, List, ◌∷◌, take, refl, ap, ◌∙◌, arith}
use Rattle.std.specs.Prelude.{◌==◌}
use Rattle.nl_pins.specs.declared.rules.Dated.{Dated}
use Rattle.nl_pins.specs.Retention.{AreBelow, is_among}
use Rattle.nl_pins.proofs.Kept.{AllOf, all_of, all_on, different}

-- of those that are left, so many more are among the last
abbrev pub FollowLast : ℕ → (rows : List Dated) → (left : ℕ) → (rest : List Dated) → Type 0
FollowLast limit rows left rest = AllOf (λ e. is_among (take limit rows) e ≡ is_among (take left rest) e) rest

pub last_at_first : (limit : ℕ) (rows : List Dated) → FollowLast limit rows limit rows
last_at_first limit rows = all_of _ (λ d. refl) rows

abbrev pub one_less : ℕ → ℕ
one_less zero = zero
one_less (suc n) = n

abbrev pub is_some_left : ℕ → Bool
is_some_left zero = false
is_some_left (suc n) = true

pub last_on : (limit : ℕ) (rows : List Dated) (left : ℕ) (d : Dated) (rest : List Dated)
    → AreBelow d.number rest → FollowLast limit rows left (d ∷ rest)
    → FollowLast limit rows (one_less left) rest
last_on limit rows zero d rest below were = were.1
last_on limit rows (suc left) d rest below were =
    all_on _ _ d.number rest below
    (λ e low was. was ∙ ap (λ (b : Bool). b || is_among (take left rest) e) (different d.number e.number low))
    were.1

pub last_is : (limit : ℕ) (rows : List Dated) (left : ℕ) (d : Dated) (rest : List Dated)
    → FollowLast limit rows left (d ∷ rest) → is_among (take limit rows) d ≡ is_some_left left
last_is limit rows zero d rest were = were.0
last_is limit rows (suc left) d rest were =
    were.0 ∙ ap (λ (b : Bool). b || is_among (take left rest) d) (same d.number)
  where
    same : (n : ℕ) → (n == n) ≡ true
    same n = grind (arith)
