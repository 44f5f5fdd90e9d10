-- Which texts have the form of a pattern, in which `*` stands for any bytes and `?` for one, but not for `/`.
use Rattle.std.specs.Prelude.{ℕ, Bool, true, false, ◌&&◌, ◌||◌, ◌==◌, not, if◌then◌else◌, List, [], ◌∷◌}
use Rattle.std.specs.List.{list_any}
use Rattle.nl_types.specs.Plain.Characters.{slash}

abbrev pub star : ℕ
star = 42

abbrev pub question_mark : ℕ
question_mark = 63

-- whether one byte of a pattern stands for a byte
abbrev pub stands_for : ℕ → ℕ → Bool
stands_for p c = if p == question_mark then not (c == slash) else p == c

abbrev pub one : ℕ → (List ℕ → Bool) → List ℕ → Bool
one p rest [] = false
one p rest (c ∷ text) = stands_for p c && rest text

-- what `*` stands for may end anywhere before a slash
abbrev pub anywhere : (List ℕ → Bool) → List ℕ → Bool
anywhere rest [] = rest []
anywhere rest (c ∷ text) = rest (c ∷ text) || (not (c == slash) && anywhere rest text)

abbrev pub is_nothing : List ℕ → Bool
is_nothing [] = true
is_nothing (c ∷ text) = false

abbrev pub has_form : List ℕ → List ℕ → Bool
has_form [] text = is_nothing text
has_form (p ∷ pattern) text =
    if p == star then anywhere (has_form pattern) text else one p (has_form pattern) text

-- ---- words of a person

-- the text behind the slashes that it begins with
abbrev pub without_front : List ℕ → List ℕ
without_front [] = []
without_front (c ∷ text) = if c == slash then without_front text else c ∷ text

-- the text before the slashes that it ends with
abbrev pub without_end : List ℕ → List ℕ
without_end [] = []
without_end (c ∷ text) =
    if c == slash && is_nothing (without_end text) then [] else c ∷ without_end text

abbrev pub has_slash : List ℕ → Bool
has_slash text = list_any (λ c. c == slash) text
