use Rattle.std.proofs.Common.{◌∙◌, ap, not, sym}
use Rattle.nl_types.specs.Plain.Protection.{staying_numbers}
use Rattle.nl_cpfile.specs.Tables.{rows}
use Rattle.nl_protect.proofs.Staying.{ended-unneeded}
use Rattle.nl_protect.proofs.protection.needed_from.Goals as goal

pub returns-else-not-has_ended_by : goal.returns-else-not-has_ended_by
returns-else-not-has_ended_by c =
    let past = c.if-not-has_ended_by.false in
    ap not past
    ∙ sym (ended-unneeded c.args.first c.args.period
    (staying_numbers c.args.below (rows c.args.kept.now.table)) c.requires
    (sym c.has_ended_by.ensures ∙ past))
