use Rattle.nl_commit.specs.Notes.{allowed_where}
use Rattle.nl_core.proofs.LedgerEvents.{events_are_ledger_events, runs_are_ledger_events}
use Rattle.nl_core.proofs.laws.events_are_ledger_events.Goals as goal

pub returns-clause-event : goal.returns-clause-event
returns-clause-event c = λ told. events_are_ledger_events (allowed_where told)

pub returns-clause-events : goal.returns-clause-events
returns-clause-events c = λ told. runs_are_ledger_events (allowed_where told)
