-- Beginnings of a published history.
use Rattle.std.specs.Prelude.{ℕ, ◌≡◌, ◌≤◌, ◌^◌, List, [], ◌∷◌, ◌++◌, length}
use Rattle.nl_commit.specs.Commits.{IsHistory}
use Rattle.nl_commit.specs.declared.commit.Commit.{Commit}

-- a history, or nothing of it yet
abbrev pub IsBegun : List Commit → Type 0
IsBegun [] = Unit {0}
IsBegun (c ∷ commits) = IsHistory (c ∷ commits)

-- it takes no more commits
abbrev pub IsFull : List Commit → Type 0
IsFull log = 2 ^ 62 ≤ length log

-- what is known of a volume: its id, and a beginning of its published history
pub record Known : Type 0 where
  pub volume : ℕ
  pub commits : List Commit

-- what adds to a volume's history, and how often it has refused to
pub record Adding : Type 0 where
  pub volume : ℕ
  pub refusals : ℕ

abbrev pub EndsWith : List Commit → Commit → Type 0
EndsWith log c = (before : List Commit) × (log ≡ before ++ c ∷ [])
