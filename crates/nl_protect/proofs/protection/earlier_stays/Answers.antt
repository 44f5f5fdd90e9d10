use Rattle.std.proofs.Common.{sym, subst}
use Rattle.nl_cpfile.specs.Tables.{IsRising}
use Rattle.nl_protect.specs.Keeping.{is_before}
use Rattle.nl_protect.proofs.Kept.{rising-filter}
use Rattle.nl_protect.proofs.protection.earlier_stays.Goals as goal

pub beginning_at-requires : goal.beginning_at-requires
beginning_at-requires c =
    subst IsRising (sym c.ending_before.ensures)
    (rising-filter (is_before c.args.end) c.args.kept.now c.requires)
