-- Paths of a damaged image.
use Rattle.std.specs.Prelude.{ℕ, List, All, IsTrue}
use Rattle.nl_types.specs.Plain.Paths.{is_name}

-- each name may stand in a path
abbrev pub AreNames : List (List ℕ) → Type 0
AreNames path = All (λ (name : List ℕ). IsTrue (is_name name)) path
