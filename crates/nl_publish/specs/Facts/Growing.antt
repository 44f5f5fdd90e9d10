-- What one more commit does to a history and to its content.
use Rattle.std.proofs.Common.{◌≡◌, List, [], ◌∷◌, ◌++◌, fold, refl}
use Rattle.nl_commit.specs.declared.commit.Commit.{Commit}
use Rattle.nl_commit.specs.Shown.{Shown}
use Rattle.nl_commit.specs.Shown.{whole_of}
use Rattle.nl_commit.specs.Commits.{AllNext, IsHistory, applied, shown_after}
use Rattle.nl_commit.specs.declared.commit.Commit.TheVariants as commit
use Rattle.nl_publish.specs.Histories.{IsBegun}

pub fold-grows : (x : Shown) (xs ys : List Commit)
    → fold applied x (xs ++ ys) ≡ fold applied (fold applied x xs) ys
fold-grows x [] ys = refl
fold-grows x (c ∷ xs) ys = fold-grows (applied x c) xs ys

-- ---- histories

all_more : (x : Shown) (xs ys : List Commit) → AllNext x xs → AllNext (fold applied x xs) ys
    → AllNext x (xs ++ ys)
all_more x [] ys h more = more
all_more x (c ∷ xs) ys h more = (h.0, all_more (applied x c) xs ys h.1 more)

all_start : (x : Shown) (xs ys : List Commit) → AllNext x (xs ++ ys) → AllNext x xs
all_start x [] ys h = tt
all_start x (c ∷ xs) ys h = (h.0, all_start (applied x c) xs ys h.1)

-- a history goes on by commits that may follow
pub history_more : (log more : List Commit) → IsHistory log → AllNext (shown_after log) more
    → IsHistory (log ++ more)
history_more [] more h next = absurd h
history_more (commit.Whole w ∷ log) more h next = (h.0, all_more (whole_of w) log more h.1 next)
history_more (commit.Written w ∷ log) more h next = absurd h
history_more (commit.ModeSet n m ∷ log) more h next = absurd h
history_more (commit.Removed n ∷ log) more h next = absurd h
history_more (commit.RangeRemoved n m ∷ log) more h next = absurd h
history_more (commit.Mounted m ∷ log) more h next = absurd h
history_more (commit.GivenBack m ∷ log) more h next = absurd h
history_more (commit.Freed w ∷ log) more h next = absurd h
history_more (commit.Resized segments blocks ∷ log) more h next = absurd h

-- and each beginning of it is one
pub history_start : (log more : List Commit) → IsHistory (log ++ more) → IsBegun log
history_start [] more h = tt
history_start (commit.Whole w ∷ log) more h = (h.0, all_start (whole_of w) log more h.1)
history_start (commit.Written w ∷ log) more h = absurd h
history_start (commit.ModeSet n m ∷ log) more h = absurd h
history_start (commit.Removed n ∷ log) more h = absurd h
history_start (commit.RangeRemoved n m ∷ log) more h = absurd h
history_start (commit.Mounted m ∷ log) more h = absurd h
history_start (commit.GivenBack m ∷ log) more h = absurd h
history_start (commit.Freed w ∷ log) more h = absurd h
history_start (commit.Resized segments blocks ∷ log) more h = absurd h

-- a beginning that has a commit is a history
pub begun_more : (log : List Commit) (c : Commit) → IsBegun (log ++ c ∷ []) → IsHistory (log ++ c ∷ [])
begun_more [] c h = h
begun_more (x ∷ log) c h = h
