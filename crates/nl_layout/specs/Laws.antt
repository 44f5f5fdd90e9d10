-- What spellings mean.
use Rattle.std.specs.Prelude.{◌≡◌, ℕ, List}

-- bytes spell one value at most
abbrev pub SpellOne : {A : Type 0} → (List ℕ → A → Type 0) → Type 0
SpellOne {A = A} Spells = (bytes : List ℕ) (x y : A) → Spells bytes x → Spells bytes y → x ≡ y
