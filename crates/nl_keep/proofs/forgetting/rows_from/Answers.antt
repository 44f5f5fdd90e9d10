use Rattle.std.proofs.Common.{Ok, ap, ◌∙◌}
use Rattle.nl_keep.proofs.Forgets.{tells_from}
use Rattle.nl_keep.proofs.forgetting.rows_from.Goals as goal

pub returns-in-Rows-clause-rows : goal.returns-in-Rows-clause-rows
returns-in-Rows-clause-rows g c =
    tells_from c.args.number c.in-Rows.rows c.applied.result (g.V.Volume.means c.args.volume.now)
    (g.V.Volume.means c.applied.new.volume) c.applied.ensures (c.in_ok-other.was ∙ ap Ok c.in-Rows.is)
