-- Events of a round, as the pen's store sees them.
use Rattle.std.proofs.Common.{◌≡◌, ℕ, ◌+◌, List, Some, None, Ok}
use Rattle.nl_types.specs.declared.event.Event.{Event}
use Rattle.nl_types.specs.declared.event.Event.TheVariants.{Move}
use Rattle.nl_types.specs.declared.reply.Answer.{Answer}
use Rattle.nl_reclaim.specs.Moves.{HasMovedPages}
use Rattle.nl_events.specs.CleanedPens.{kept_store}
use Rattle.nl_core.specs.Facts.MovedNeeds.{moved-needs}
use Rattle.nl_commit.specs.Layout.{AllowedBetween, Does, IsPen, Layout}
use Rattle.nl_cleaner.specs.Job.{Cleaning, JobView}

-- a round that has come to its segments
abbrev pub cleaning : (now period : ℕ) → List ℕ → JobView
cleaning now period left = record { stage = Cleaning; moment = now; period = period; left = left }

pub some-is : (a b : Event) → Some a ≡ Some b → b ≡ a
some-is a b h = cc

pub none-some : (a : Event) → None ≡ Some a → ⊥
none-some a h = cc

pub move-is : {allowed : AllowedBetween} (old new : Layout) (segment limit now : ℕ) (answer : Answer)
    → IsPen old
    → Does allowed old (Move segment limit now) (Ok answer) new
    → HasMovedPages segment (old.lists.table.latest.number + 1) now limit (kept_store old) (kept_store new)
move-is old new segment limit now answer held does = record {
  needs = moved-needs old new segment limit now answer held does;
  moved = does.becomes.1.moved.moved;
  store = does.pen.sound.store;
}
