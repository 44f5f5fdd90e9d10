-- How commits that wait become entries.
use Rattle.std.specs.Prelude.{ℕ, ◌≡◌, ◌++◌, List, [], ◌∷◌, length, Option, None, Some}
use Rattle.logbook.specs.Pages.{Book}
use Rattle.nl_commit.specs.declared.commit.Commit.{Commit}
use Rattle.nl_publish.specs.declared.reader_state.Entry.{Entry}
use Rattle.nl_publish.specs.Histories.{Known}

-- the first commit that waited ends what is noted, and is the entry's
pub record IsNotedEntry (book : ℕ → Book) (old : Known) (waited : List Commit) (new : Known)
    (waits : List Commit) (e : Entry) : Type 0 where
  pub first : waited ≡ e.commit ∷ waits
  pub volume : new.volume ≡ old.volume
  pub commits : new.commits ≡ old.commits ++ e.commit ∷ []
  pub count : e.count ≡ length new.commits
  pub log : e.seen.log ≡ new.commits
  pub book_is : e.seen.book ≡ book new.volume

-- an entry is the one that was left, or a commit that waited
pub data EntryComes (book : ℕ → Book) (unsent : Option Entry) (old : Known) (waited : List Commit) (new : Known)
    (waits : List Commit) (e : Entry) : Type 0 where
  WasLeft : unsent ≡ Some e → new ≡ old → waits ≡ waited → EntryComes book unsent old waited new waits e
  Noted : unsent ≡ None → IsNotedEntry book old waited new waits e
      → EntryComes book unsent old waited new waits e
