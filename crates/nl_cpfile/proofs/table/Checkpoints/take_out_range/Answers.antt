use Rattle.std.proofs.Common.{◌∙◌, List, ℕ, ap, sym}
use Rattle.nl_cpfile.specs.Tables.{without}
use Rattle.nl_cpfile.proofs.Ranges.{no_range-takes_none, range-takes_removable, without-none}
use Rattle.nl_cpfile.proofs.table.Checkpoints.take_out_range.Goals as goal

pub returns-then-not-is_no_range : goal.returns-then-not-is_no_range
returns-then-not-is_no_range c =
    let t = c.args.self.now.table in
    c.take_out_between.ensures.taken
    ∙ ap (λ (ns : List ℕ). without ns t)
    (sym (range-takes_removable c.args.first c.args.last t
    (sym c.is_no_range.ensures ∙ c.if-not-is_no_range.true)))

pub returns-else-not-is_no_range : goal.returns-else-not-is_no_range
returns-else-not-is_no_range c =
    let t = c.args.self.now.table in
    sym (without-none t)
    ∙ ap (λ (ns : List ℕ). without ns t)
    (sym (no_range-takes_none c.args.first c.args.last t
    (sym c.is_no_range.ensures ∙ c.if-not-is_no_range.false)))
