use Rattle.std.proofs.Common.{◌∙◌, ap, sym}
use Rattle.nl_types.specs.declared.row.Range.{Range}
use Rattle.nl_types.specs.Plain.Rows as told
use Rattle.nl_cpfile.specs.Tables.{rows, without}
use Rattle.nl_cpfile.proofs.table.Checkpoints.remove_range.Goals as goal

pub returns-clause-removed : goal.returns-clause-removed
returns-clause-removed c =
    c.take_out_between.ensures.taken
    ∙ ap (λ (range : Range). without range.removed c.args.self.now.table) (sym c.in_ok-range.ensures.found)

pub returns-clause-told : goal.returns-clause-told
returns-clause-told c =
    c.take_out_between.ensures.told
    ∙ ap (λ (range : Range). told.without range.removed (rows c.args.self.now.table))
    (sym c.in_ok-range.ensures.found)
