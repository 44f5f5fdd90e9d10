-- What is left of rows where checkpoints are forgotten one after another, as `forget` of nl_keep does it. Rows ascend.
use Rattle.std.specs.Prelude.{◌≡◌, ◌<◌, ℕ, ◌&&◌, ◌||◌, ◌==◌, Bool, false, IsTrue, not, if◌then◌else◌, List, [], ◌∷◌, ⊤, Option}
use Rattle.nl_types.specs.declared.row.Row.{Row}
use Rattle.nl_words.specs.declared.forgetting.Stay.{Stay}
use Rattle.nl_words.specs.declared.ranges.Numbers.{Numbers}
use Rattle.nl_words.specs.Going.{going, is_it, stay_of, stays}
use Rattle.nl_words.specs.Own.{is_plain_minor, latest_number}
use Rattle.nl_words.specs.Ranges.{is_named}

-- a minor row right behind one that is forgotten goes along: it is plain, and not the latest of all
abbrev pub goes_along : (latest : Option ℕ) → Row → Bool
goes_along latest row = is_plain_minor row && not (is_it row.number latest)

-- the rows behind one that is forgotten, without those that go along
abbrev pub behind_run : (latest : Option ℕ) → List Row → List Row
behind_run latest [] = []
behind_run latest (row ∷ rows) =
    if row.minor then (if goes_along latest row then behind_run latest rows else row ∷ behind_run latest rows)
    else row ∷ rows

-- the rows without one, and without those that go along with it
abbrev pub without_one : (latest : Option ℕ) → ℕ → List Row → List Row
without_one latest n [] = []
without_one latest n (row ∷ rows) =
    if row.number == n then behind_run latest rows else row ∷ without_one latest n rows

abbrev pub has_number : List Row → ℕ → Bool
has_number [] n = false
has_number (row ∷ rows) n = row.number == n || has_number rows n

-- each is kept when its turn comes, and in the end these rows are left
abbrev pub Forgets : (latest : Option ℕ) → List ℕ → List Row → List Row → Type 0
Forgets latest [] rows left = left ≡ rows
Forgets latest (n ∷ numbers) rows left =
    IsTrue (has_number rows n) × Forgets latest numbers (without_one latest n rows) left

-- each row that is left is one that no range names, or one that stays
abbrev pub AreLeft : List Numbers → Stay → List Row → Type 0
AreLeft ranges stay [] = ⊤
AreLeft ranges stay (row ∷ rows) =
    IsTrue (not (is_named ranges row.number) || stays stay row.number) × AreLeft ranges stay rows

-- each row that isn't plain and minor is left, if no range names it or if it stays
abbrev pub OwnAreLeft : List Numbers → Stay → List Row → (left : List Row) → Type 0
OwnAreLeft ranges stay [] left = ⊤
OwnAreLeft ranges stay (row ∷ rows) left =
    (is_plain_minor row ≡ false → IsTrue (not (is_named ranges row.number) || stays stay row.number)
    → IsTrue (has_number left row.number))
    × OwnAreLeft ranges stay rows left

abbrev pub AreAbove : ℕ → List Row → Type 0
AreAbove n [] = ⊤
AreAbove n (row ∷ rows) = (n < row.number) × AreAbove n rows

-- numbers rise
abbrev pub Rise : List Row → Type 0
Rise [] = ⊤
Rise (row ∷ rows) = AreAbove row.number rows × Rise rows

-- No number that is handed over is missing when its turn comes. Behind the last one no row is left that a range names,
-- but those that stay; and of those that aren't plain and minor all others are.
abbrev pub NamedOnesGo : Type 0
NamedOnesGo = (ranges : List Numbers) → (rows : List Row) → Rise rows
    → (left : List Row) × Forgets (latest_number rows) (going ranges rows) rows left
    × AreLeft ranges (stay_of rows) left × OwnAreLeft ranges (stay_of rows) rows left
