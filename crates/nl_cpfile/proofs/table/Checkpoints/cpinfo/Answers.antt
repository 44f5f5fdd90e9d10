use Rattle.std.proofs.Common.{◌∙◌, ap, sym}
use Rattle.std.specs.Prelude.{Ok}
use Rattle.nl_cpfile.proofs.Told.{kept_row-kept}
use Rattle.nl_cpfile.proofs.table.Checkpoints.cpinfo.Goals as goal

pub returns-in-Some : goal.returns-in-Some
returns-in-Some c =
    ap Ok c.row.ensures ∙ sym (kept_row-kept c.args.number c.args.self.now.table _ (sym c.in-Some.ensures))

pub returns-in-None : goal.returns-in-None
returns-in-None c = sym (kept_row-kept c.args.number c.args.self.now.table _ (sym c.in-None.ensures))
