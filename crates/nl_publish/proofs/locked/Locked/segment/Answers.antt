use Rattle.nl_publish.proofs.ToldSegments.{never-uncounted, told-there}
use Rattle.nl_publish.proofs.locked.Locked.segment.Goals as goal

pub returns-in_err-needed : goal.returns-in_err-needed
returns-in_err-needed g c =
    absurd (never-uncounted c.args.self.now.layout c.args.segment c.in_ok-info.info c.in_err-needed.field-0.0
    c.in_ok-info.ensures c.in_err-needed.ensures)

pub returns : goal.returns
returns g c =
    told-there c.args.self.now.layout c.args.segment c.in_ok-info.info c.in_ok-needed.needed
    c.in_ok-info.ensures c.in_ok-needed.ensures
