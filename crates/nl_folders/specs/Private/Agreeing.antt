-- Paths that begin alike.
use Rattle.std.specs.Prelude.{◌≡◌, ℕ, take}
use Rattle.nl_types.specs.Plain.Paths.{Path}

-- the first names of both are the same, so many of them
abbrev pub AgreeOn : ℕ → Path → Path → Type 0
AgreeOn count p q = take count p ≡ take count q
