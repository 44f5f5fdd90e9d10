-- Files that begin with a mark and a number.
use Rattle.std.specs.Prelude.{ℕ, Bool, false, ◌&&◌, if◌then◌else◌, ◌==◌, nat_le, List, [], ◌∷◌}

-- a digit is the first byte
abbrev pub begins_with_digit : List ℕ → Bool
begins_with_digit [] = false
begins_with_digit (b ∷ bytes) = nat_le 48 b && nat_le b 57

-- the mark stands in front, and a digit right behind it
unfoldable pub is_marked : (mark bytes : List ℕ) → Bool
is_marked [] bytes = begins_with_digit bytes
is_marked (b ∷ mark) [] = false
is_marked (b ∷ mark) (c ∷ bytes) = if b == c then is_marked mark bytes else false
