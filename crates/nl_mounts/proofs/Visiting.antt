-- What a call of a port without a mount comes to.
use Rattle.std.proofs.Common.{◌≡◌, ap, sym, ◌∙◌, subst}
use Rattle.nl_commit.specs.Commits.{IsHistory, shown_after}
use Rattle.nl_commit.specs.Shown.{Shown}
use Rattle.nl_publish.specs.declared.reader_state.ReaderState.{ReaderState}
use Rattle.nl_publish.specs.Histories.{Known}
use Rattle.nl_publish.specs.States.{IsWhole}
use Rattle.nl_publish.specs.Reading.{IsLater}
use Rattle.nl_mounts.specs.Ports.{LookView}
use Rattle.nl_mounts.specs.Visiting.{Entered, HasEntered, Visited}

pub entered : (old new : Known) (i : ReaderState) → IsWhole i → IsLater old new → new.commits ≡ i.seen.log
    → HasEntered old new i.tables
entered old new i whole later log = record {
  seen = record { later = later; history = subst IsHistory (sym log) whole.history };
  shown = whole.shown ∙ ap shown_after (sym log);
}

pub record CameBack (old new : Known) (Ungiven Refused : Type 0) (Answers : Shown → Type 0) : Type 0 where
  pub later : IsLater old new
  pub visited : Visited old new Ungiven Refused Answers

-- by the steps of its body
pub came_back : (old new : Known) (look : LookView) (x : Shown) (Ungiven Refused : Type 0)
    (Answers : Shown → Type 0)
    → HasEntered old look.front look.shown → new ≡ look.front → x ≡ look.shown → Answers x
    → CameBack old new Ungiven Refused Answers
came_back old new look x Ungiven Refused Answers at seen shown answers =
    subst (λ (k : Known). CameBack old k Ungiven Refused Answers) (sym seen) (record {
      later = at.seen.later;
      visited = Entered at.seen.history (subst Answers (shown ∙ at.shown) answers);
    })
