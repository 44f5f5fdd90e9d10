-- Events of a pen as events of its ledger, and what becomes of numbers over whole lists of them.
use Rattle.std.specs.Prelude.{◌≡◌, if◌then◌else◌, List, [], ◌∷◌, Ok, Err, map}
use Rattle.nl_types.specs.declared.event.Event.{Event}
use Rattle.nl_types.specs.declared.event.Event.TheVariants as event
use Rattle.nl_types.specs.declared.reply.Answer.{Answer}
use Rattle.nl_types.specs.Blocks.Lifetimes.{EachAllowed, EndsOnceSince, KeepsCovered, Ledger, LedgerEvent, Frees, Forgets, Makes, ledger_after_all}
use Rattle.nl_types.specs.Plain.Runs.{Run}
use Rattle.nl_types.specs.Plain.Worlds.{Reply, is_moving}
use Rattle.nl_reclaim.specs.Reclaims.{stood_in}
use Rattle.nl_commit.specs.Layout.{AllowedBetween, Does, HasDone, IsPen, Layout, Becomes, ledger_of}
use Rattle.nl_events.specs.NeededBlocks.{taken_out}

-- ---- which they are

-- A checkpoint is a write of the births and ends that it has, and a move of blocks one of none: at the minor
-- checkpoint that it makes no number starts or ends. A removal is that of its checkpoint, and the removal of
-- a range and an expiry are those of the answered ones, one after another. A retirement takes out the numbers
-- whose pages stood in its segment. No other event is one of the ledger.
abbrev pub done_events : (old new : Layout) (event : Event) (answer : Answer) → HasDone old event answer new
    → List LedgerEvent
done_events old new (event.Checkpoint mode moment) answer done =
    Makes done.writes.settled.changes.births done.writes.settled.changes.ends ∷ []
done_events old new (event.Remove n) answer done = Forgets n ∷ []
done_events old new (event.RemoveRange first last) answer done = map Forgets (taken_out answer)
done_events old new (event.Expire now period) answer done = map Forgets (taken_out answer)
done_events old new (event.Retire segment) answer done = Frees (stood_in old.store segment) ∷ []
done_events old new (event.Move segment limit moment) answer done =
    if is_moving (Ok answer) then Makes [] [] ∷ [] else []
done_events old new event answer done = []

-- a refused event is none
abbrev pub ledger_events : (old new : Layout) (event : Event) (reply : Reply) → Becomes old event reply new
    → List LedgerEvent
ledger_events old new event (Ok answer) becomes = done_events old new event answer becomes
ledger_events old new event (Err e) becomes = []

-- these events lead from one ledger to another, each allowed where it comes
pub record LedgerGoesOn (events : List LedgerEvent) (old new : Ledger) : Type 0 where
  pub each : EachAllowed events old
  pub after : new ≡ ledger_after_all events old

-- ---- laws

-- what an event does to a pen's ledger, its ledger events do
abbrev pub EventsAreLedgerEvents : AllowedBetween → Type 0
EventsAreLedgerEvents allowed =
    (old new : Layout) (event : Event) (reply : Reply) → IsPen old → (does : Does allowed old event reply new)
    → LedgerGoesOn (ledger_events old new event reply does.becomes) (ledger_of old) (ledger_of new)

-- and a list of events does what a list of ledger events does
abbrev pub RunsAreLedgerEvents : AllowedBetween → Type 0
RunsAreLedgerEvents allowed =
    (old new : Layout) (events : List Event) (replies : List Reply)
    → IsPen old → Run (Does allowed) old events replies new
    → (changes : List LedgerEvent) × LedgerGoesOn changes (ledger_of old) (ledger_of new)

-- However many events came, a number keeps its page, its place and its start while a kept checkpoint needs
-- it. Until it is taken out, its end changes once at most, from none to the number of a checkpoint that was
-- made since.
pub record KeepsNumbersSince (old new : Layout) : Type 0 where
  pub covered : KeepsCovered (ledger_of old) (ledger_of new)
  pub ends : EndsOnceSince (ledger_of old) (ledger_of new)

abbrev pub RunsKeepNumbers : AllowedBetween → Type 0
RunsKeepNumbers allowed =
    (old new : Layout) (events : List Event) (replies : List Reply)
    → IsPen old → Run (Does allowed) old events replies new → KeepsNumbersSince old new
