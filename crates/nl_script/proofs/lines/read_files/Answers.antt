use Rattle.std.proofs.Common.{sym, subst, length, take, drop, List}
use Rattle.nl_types.specs.Plain.Runs.{Run}
use Rattle.nl_types.specs.Plain.Worlds.{Reply}
use Rattle.nl_types.specs.declared.event.Event.{Event}
use Rattle.nl_script.proofs.FilesRead.{run_long, runs_on}
use Rattle.nl_script.proofs.lines.read_files.Goals as goal

pub returns-clause-run : goal.returns-clause-run
returns-clause-run g c =
    let does = g.V.Volume.habits.does in
    let old = c.args.volume.now in
    let new = c.run_rest.new.volume in
    let events = c.in_ok-events.events.items in
    let first = c.in_ok-first.first.items in
    let rest = c.in_ok-replies.ensures.run in
    let begun =
    subst (λ (es : List Event). Run does old (take (length first) es) first old)
    (sym c.in_ok-events.ensures) c.in_ok-first.ensures.run in
    let then =
    subst (λ (es : List Event). Run does old (drop (length first) es) rest.0 new) c.as_slice.ensures.value
    rest.2 in
    subst (λ (rs : List Reply). Run does old events rs new) (sym rest.1)
    (runs_on does old old new events first rest.0 begun then)

pub returns-clause-count : goal.returns-clause-count
returns-clause-count g c =
    run_long g.V.Volume.habits.does c.args.volume.now c.run_rest.new.volume c.in_ok-events.events.items
    c.in_ok-replies.replies.items
    (returns-clause-run g c)
