-- What a volume has once those that come over are there, and what it lacks still. Dates of a volume never fall.
use Rattle.std.specs.Prelude.{◌≡◌, ◌<◌, ◌≤◌, ◌⊎◌, ℕ, max, true, List, [], ◌∷◌, ◌++◌, ⊤}
use Rattle.nl_words.specs.declared.copying.Kept.{Kept}
use Rattle.nl_words.specs.Coming.{begin_alike, behind_first, coming, count_like, is_own, latest_stamp, missing}

-- ---- dates

abbrev pub AreNotBefore : (stamp : ℕ) → List Kept → Type 0
AreNotBefore stamp [] = ⊤
AreNotBefore stamp (k ∷ rows) = (stamp ≤ k.row.stamp) × AreNotBefore stamp rows

abbrev pub NeverFall : List Kept → Type 0
NeverFall [] = ⊤
NeverFall (k ∷ rows) = AreNotBefore k.row.stamp rows × NeverFall rows

-- ---- what is there

-- some of these, in their order
abbrev pub AreOf : (some rows : List Kept) → Type 0
AreOf [] rows = ⊤
AreOf (k ∷ some) [] = ⊥
AreOf (k ∷ some) (l ∷ rows) = ((k ≡ l) × AreOf some rows) ⊎ AreOf (k ∷ some) rows

-- of its date and tree there are as many here with these as the greater of the two volumes had
abbrev pub AreEvened : (here come there : List Kept) → Kept → Type 0
AreEvened here come there k = count_like k (here ++ come) ≡ max (count_like k here) (count_like k there)

-- ---- the law

-- Of two volumes that begin with the empty tree the first ones are passed over. Those that come over are some of the
-- rows, in their order. Of each own checkpoint that isn't earlier than all of the other volume there are then as many
-- of its date and tree as the greater of the two had; and so would there be of each earlier one with those that are
-- missing. Of those dates nothing else comes or is missing.
abbrev pub EachComesOrIsMissing : Type 0
EachComesOrIsMissing = (rows others : List Kept) → NeverFall others
    → let passed = begin_alike rows others in
    let there = behind_first passed rows in
    let here = behind_first passed others in
    AreOf (coming rows others) there
    × AreOf (missing rows others) there
    × ((k : Kept) → is_own k ≡ true → latest_stamp 0 others ≤ k.row.stamp
    → AreEvened here (coming rows others) there k × (count_like k (missing rows others) ≡ 0))
    × ((k : Kept) → is_own k ≡ true → k.row.stamp < latest_stamp 0 others
    → AreEvened here (missing rows others) there k × (count_like k (coming rows others) ≡ 0))
