-- Lists of numbers.
use Rattle.std.specs.Prelude.{◌≡◌, ℕ, Bool, false, ◌||◌, ◌==◌, List, [], ◌∷◌}

abbrev pub is_one_of : List ℕ → ℕ → Bool
is_one_of [] q = false
is_one_of (k ∷ ks) q = (q == k) || is_one_of ks q

-- no number stands twice
abbrev pub NoneTwice : List ℕ → Type 0
NoneTwice [] = Unit {0}
NoneTwice (k ∷ ks) = (is_one_of ks k ≡ false) × NoneTwice ks
