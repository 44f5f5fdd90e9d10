use Rattle.std.proofs.Common.{Ok, ap, ◌∙◌}
use Rattle.nl_keep.proofs.Steps.{takes_snapshot}
use Rattle.nl_keep.proofs.storing.snapshot.Goals as goal

pub returns-in-Checkpoint-clause-taken : goal.returns-in-Checkpoint-clause-taken
returns-in-Checkpoint-clause-taken g c =
    takes_snapshot c.args.moment c.in-Checkpoint.number c.applied.result (g.V.Volume.means c.args.volume.now)
    (g.V.Volume.means c.applied.new.volume) c.applied.ensures (c.in_ok-other.was ∙ ap Ok c.in-Checkpoint.is)
