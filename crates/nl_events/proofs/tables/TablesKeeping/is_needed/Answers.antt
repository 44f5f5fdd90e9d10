use Rattle.std.proofs.Common.{ℕ, List, ap, ◌∙◌}
use Rattle.nl_types.specs.Blocks.Entries.{is_period_needed}
use Rattle.nl_types.specs.Plain.Protection.{staying_numbers}
use Rattle.nl_cpfile.specs.Tables.{all, rows}
use Rattle.nl_events.specs.Facts.NeededNumbers.{staying-all}
use Rattle.nl_events.proofs.tables.TablesKeeping.is_needed.Goals as goal

pub returns : goal.returns
returns c =
    let table = c.self.inside.checkpoints.table in
    rw (← c.self.view_is)
    (c.needed.ensures
    ∙ ap (λ (n : ℕ). is_period_needed (staying_numbers n (rows table)) c.args.period) c.new.ensures
    ∙ ap (λ (ns : List ℕ). is_period_needed ns c.args.period) (staying-all (all table)))
