use Rattle.std.proofs.Common.{◌∙◌, sym}
use Rattle.nl_keep.proofs.MinorRemovals.{minor_goes, other_stays}
use Rattle.nl_keep.proofs.tidying.remove_if_minor.Goals as goal

pub returns-then-not-is_plain_minor-clause-taken : goal.returns-then-not-is_plain_minor-clause-taken
returns-then-not-is_plain_minor-clause-taken g c =
    other_stays c.args.row.now (g.V.Volume.means c.args.volume.now)
    (sym c.is_plain_minor.ensures ∙ c.if-not-is_plain_minor.true)

pub returns-clause-taken : goal.returns-clause-taken
returns-clause-taken g c =
    minor_goes c.args.row.now c.applied.result c.in_ok-applied.field-0 (g.V.Volume.means c.args.volume.now)
    (g.V.Volume.means c.applied.new.volume) (sym c.is_plain_minor.ensures ∙ c.if-not-is_plain_minor.false)
    c.applied.ensures c.in_ok-applied.was
