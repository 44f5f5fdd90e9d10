use Rattle.std.proofs.lemmas.Bool.{false≢true}
use Rattle.nl_damage.proofs.OwnLogs.{are-logs, logs-exact}
use Rattle.nl_damage.proofs.later.has_logs.Goals as goal

pub returns-in-Ok : goal.returns-in-Ok
returns-in-Ok c =
    logs-exact c.args.sections.now c.args.segments.now c.args.table.now c.in-Ok.logs c.in-Ok.ensures.found
    c.summaries_are_one.ensures.one c.requires.over c.as_slice.result.now c.as_slice.ensures c.have_own.result
    c.have_own.ensures

pub returns-in-Err-BadImage : goal.returns-in-Err-BadImage
returns-in-Err-BadImage c = (
  λ lie. absurd (false≢true lie),
  λ logs.
      let memory =
      c.in-Err-BadImage.ensures.only
      (are-logs c.args.sections.now c.args.segments.now c.args.table.now logs) in
      absurd (cc),
)
