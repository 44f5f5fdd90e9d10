use Rattle.std.proofs.Common.{Ok, ap, ◌∙◌}
use Rattle.std.proofs.lemmas.Result.{on_ok_weaker}
use Rattle.nl_keep.proofs.Forgets.{takes_range}
use Rattle.nl_keep.proofs.forgetting.take_range.Goals as goal

pub returns-in-Removed-clause-taken : goal.returns-in-Removed-clause-taken
returns-in-Removed-clause-taken g c =
    on_ok_weaker c.judge_removed.result (λ among.
    takes_range c.args.first c.args.last c.in-Removed.range c.applied.result (g.V.Volume.means c.args.volume.now)
    (g.V.Volume.means c.applied.new.volume) c.applied.ensures (c.in_ok-other.was ∙ ap Ok c.in-Removed.is) among)
    c.judge_removed.ensures.removed
