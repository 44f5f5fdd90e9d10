-- The rule of the book that keeps a history, and what its step tells.
use Rattle.std.specs.Prelude.{ℕ, ◌≡◌, ◌==◌, true, List, [], ◌∷◌, ◌++◌, length, MatchBool}
use Rattle.logbook.specs.Pages.{Cell, Step, View, Book, Named}
use Rattle.nl_commit.specs.declared.commit.Commit.{Commit}
use Rattle.nl_publish.specs.Histories.{IsBegun}

-- the first word is the length of the history. A book has two words, of which this one leaves the second at 0
pub record IsRecorded (cells : List Cell) (log : List Commit) : Type 0 where
  pub words : cells ≡ (length log, true) ∷ (0, true) ∷ []
  pub begun : IsBegun log

abbrev pub head_of : Book → Named
head_of b = record { tracked = true; key = 0; book = b }

-- the commit was added to all that had been seen; or the history was longer, and was seen
abbrev pub Adds : Step Commit → View Commit ℕ → ℕ → View Commit ℕ → Type 0
Adds s v found w =
    MatchBool (found == s.old) ((w.0 ≡ v.0 ++ s.ask ∷ []) × IsBegun w.0) ((length w.0 ≡ found) × IsBegun w.0)
