-- Which checkpoints of a volume come over into another one. Rows ascend by their numbers, and their dates never fall.
use Rattle.std.specs.Prelude.{ℕ, suc, ◌&&◌, ◌||◌, ◌==◌, nat_le, nat_lt, Bool, true, false, not, if◌then◌else◌, List, [], ◌∷◌, ◌++◌}
use Rattle.nl_words.specs.declared.copying.Kept.{Kept}
use Rattle.nl_words.specs.Own.{is_plain_minor}

-- ---- how many there are

abbrev pub is_own : Kept → Bool
is_own k = not (is_plain_minor k.row)

-- of one date and one tree
abbrev pub are_alike : Kept → Kept → Bool
are_alike k l = (is_own k && is_own l) && (k.row.stamp == l.row.stamp && k.tree == l.tree)

abbrev pub count_like : Kept → List Kept → ℕ
count_like k [] = 0
count_like k (l ∷ all) = if are_alike k l then suc (count_like k all) else count_like k all

-- of its date and tree there are fewer among the others than among those so far, which end with it
abbrev pub is_lacking : (others so_far : List Kept) → Kept → Bool
is_lacking others so_far k = nat_lt (count_like k others) (count_like k so_far)

-- ---- the first ones

-- of the root alone, with which a volume begins
abbrev pub is_empty : Kept → Bool
is_empty k = nat_le k.row.inodes 1

abbrev pub begin_alike : (rows others : List Kept) → Bool
begin_alike [] others = false
begin_alike (k ∷ rows) [] = false
begin_alike (k ∷ rows) (l ∷ others) = is_empty k && is_empty l

abbrev pub behind_first : Bool → List Kept → List Kept
behind_first true (k ∷ rows) = rows
behind_first true [] = []
behind_first false rows = rows

-- ---- dates

-- that of the last one
abbrev pub latest_stamp : ℕ → List Kept → ℕ
latest_stamp stamp [] = stamp
latest_stamp stamp (k ∷ rows) = latest_stamp k.row.stamp rows

-- ---- which come over

-- those that are chosen, by those so far, which end with it
abbrev pub chosen : (List Kept → Kept → Bool) → (so_far : List Kept) → List Kept → List Kept
chosen choose so_far [] = []
chosen choose so_far (k ∷ rows) =
    let now = so_far ++ k ∷ [] in
    let rest = chosen choose now rows in
    if choose now k then k ∷ rest else rest

-- it is later than all others, or of the latest date, and they lack it
abbrev pub comes : (latest : ℕ) → (others so_far : List Kept) → Kept → Bool
comes latest others so_far k =
    is_own k && (nat_lt latest k.row.stamp || (k.row.stamp == latest && is_lacking others so_far k))

-- of two volumes that begin with the empty tree the first ones stand for one another
abbrev pub coming : (rows others : List Kept) → List Kept
coming rows others =
    let passed = begin_alike rows others in
    chosen (comes (latest_stamp 0 others) (behind_first passed others)) [] (behind_first passed rows)

-- ---- which can't

-- it is earlier than the latest of the others, and they lack it
abbrev pub is_missing : (latest : ℕ) → (others so_far : List Kept) → Kept → Bool
is_missing latest others so_far k = is_own k && (nat_lt k.row.stamp latest && is_lacking others so_far k)

abbrev pub missing : (rows others : List Kept) → List Kept
missing rows others =
    let passed = begin_alike rows others in
    chosen (is_missing (latest_stamp 0 others) (behind_first passed others)) [] (behind_first passed rows)
