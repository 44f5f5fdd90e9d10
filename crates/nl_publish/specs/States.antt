-- Published states, and the rule that they keep.
use Rattle.std.specs.Prelude.{ℕ, ◌≡◌, ◌⊎◌, ◌++◌, Bool, List, [], ◌∷◌, length, fold, MatchBool}
use mathlib.Core.Option.{some}
use lib.ListN.{get_elem?}
use Rattle.logbook.specs.Pages.{Book}
use Rattle.nl_commit.specs.Commits.{IsHistory, applied, shown_after}
use Rattle.nl_publish.specs.declared.reader_state.ReaderState.{ReaderState}
use Rattle.nl_publish.specs.declared.reader_state.Entry.{Entry}
use Rattle.nl_publish.specs.Histories.{Known}

-- the state with one entry more
abbrev pub absorbed : ReaderState → Entry → ReaderState
absorbed i e = record { tables = applied i.tables e.commit; count = e.count; seen = e.seen }

-- the state is what its history makes
pub record IsWhole (i : ReaderState) : Type 0 where
  pub shown : i.tables ≡ shown_after i.seen.log
  pub count : i.count ≡ length i.seen.log
  pub history : IsHistory i.seen.log

-- the entry's history is one commit longer than the state's
pub record IsNextEntry (i : ReaderState) (e : Entry) : Type 0 where
  pub book : e.seen.book ≡ i.seen.book
  pub log : e.seen.log ≡ i.seen.log ++ e.commit ∷ []
  pub count : e.count ≡ length e.seen.log
  pub history : IsHistory e.seen.log

abbrev pub AreNext : ReaderState → List Entry → Type 0
AreNext i [] = Unit {0}
AreNext i (e ∷ es) = IsNextEntry i e × AreNext (absorbed i e) es

-- all entries are shown, or nothing more is
abbrev pub HasShown : Bool → ReaderState → List Entry → ReaderState → List Entry → Type 0
HasShown done state entries now left =
    MatchBool done ((now ≡ fold absorbed state entries) × (left ≡ [])) ((now ≡ state) × (left ≡ entries))

-- readers see what was noted, and nothing is unseen
pub record IsPublished (noted : Known) (state : ReaderState) (unseen : List Entry) : Type 0 where
  pub whole : IsWhole state
  pub log : state.seen.log ≡ noted.commits
  pub none : unseen ≡ []

-- ---- the rule

-- which book it is, as a list
abbrev pub name_of : Book → List ℕ
name_of b = b.number ∷ b.log_name ∷ b.cells_name ∷ []

-- a seat that knows a book knows the state's
abbrev pub Knows : List ℕ → ReaderState → Type 0
Knows v i = (v ≡ []) ⊎ (v ≡ name_of i.seen.book)

-- the state is whole, and each seat knows of its book alone
pub record Kept (i : ReaderState) (views : List (List ℕ)) : Type 0 where
  pub whole : IsWhole i
  pub known : (seat : ℕ) (v : List ℕ) → get_elem? views seat ≡ some v → Knows v i

-- the state keeps its rule, and is of the book that was known
abbrev pub Looks : List ℕ → ReaderState → ReaderState → List ℕ → Type 0
Looks v x y w = IsWhole y × Knows v y × (w ≡ v)

-- the book is known from now on
abbrev pub Learns : List ℕ → ReaderState → ReaderState → List ℕ → Type 0
Learns v x y w = w ≡ name_of y.seen.book
