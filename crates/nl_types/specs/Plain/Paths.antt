-- Paths as bytes, as a call is given them, and as lists of names, as a tree has them.
use Rattle.std.specs.Prelude.{ℕ, Bool, true, ◌&&◌, not, if◌then◌else◌, false, ◌==◌, nat_lt, nat_le, List, [], ◌∷◌, length, Result, Ok, Err}
use Rattle.std.specs.List.{slice_split, list_all, list_any}
use Rattle.std.specs.declared.cmp.Ordering.{Ordering}
use Rattle.std.specs.Ordering.{nat_cmp, eq_by_cmp}
use Rattle.std.specs.Cmp.Lexicographic.{slice_cmp}
use Rattle.nl_types.specs.Plain.Characters.{dot, slash}
use Rattle.nl_types.specs.Plain.Limits.{name_limit, path_length_limit}
use Rattle.nl_types.specs.declared.error.VolError.{VolError}
use Rattle.nl_types.specs.declared.error.VolError.TheVariants.{BadPath, BadName}

-- a name's bytes
abbrev pub Name : Type 0
Name = List ℕ

-- the names from the root down; the root is the empty list
abbrev pub Path : Type 0
Path = List Name

-- the order of a listing, by bytes
abbrev pub name_cmp : Name → Name → Ordering
name_cmp = slice_cmp nat_cmp

abbrev pub path_cmp : Path → Path → Ordering
path_cmp = slice_cmp name_cmp

abbrev pub same_name : Name → Name → Bool
same_name = eq_by_cmp name_cmp

abbrev pub same_path : Path → Path → Bool
same_path = eq_by_cmp path_cmp

-- whether a path begins with `top`, so is `top` or lies below it
abbrev pub is_within : Path → Path → Bool
is_within [] path = true
is_within (n ∷ top) [] = false
is_within (n ∷ top) (m ∷ path) = same_name n m && is_within top path

-- 1 to 255 bytes, no NUL and no slash among them, and neither `.` nor `..`
abbrev pub is_name : List ℕ → Bool
is_name bytes =
    nat_lt 0 (length bytes) && nat_le (length bytes) name_limit
    && not (list_any (λ b. b == 0) bytes) && not (list_any (λ b. b == slash) bytes)
    && not (same_name bytes (dot ∷ [])) && not (same_name bytes (dot ∷ dot ∷ []))

-- the names between slashes, in what follows the first slash
abbrev pub names_of : List ℕ → Result Path VolError
names_of bytes =
    let names = slice_split (λ b. b == slash) bytes in
    if length bytes == 0 then Ok [] else (if list_all is_name names then Ok names else Err BadName)

-- the path that the bytes spell: 1 to 4,095 of them, of which the first is a slash
abbrev pub path_of : List ℕ → Result Path VolError
path_of [] = Err BadPath
path_of (b ∷ bytes) =
    if b == slash && nat_lt (length bytes) path_length_limit then names_of bytes else Err BadPath
