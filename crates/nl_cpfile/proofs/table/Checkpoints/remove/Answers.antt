use Rattle.std.proofs.Common.{◌≡◌, ◌∙◌, ◌∷◌, [], Bor, false, Option, None, Some, ap, sym}
use Rattle.std.specs.Prelude.{◌||◌}
use Rattle.std.specs.Option.{option_copied}
use Rattle.nl_types.specs.Plain.Rows.{reason_to_stay}
use Rattle.nl_cpfile.specs.declared.checkpoint.Checkpoint.{Checkpoint}
use Rattle.nl_cpfile.specs.Tables.{checkpoint_row, rows}
use Rattle.nl_cpfile.proofs.Told.{going-apart, going-low, reason-is, removal-kept, removal-none}
use Rattle.nl_cpfile.proofs.ToldChanges.{rows-without}
use Rattle.nl_cpfile.proofs.table.Checkpoints.remove.Goals as goal

pub returns-in_default-clause-judged : goal.returns-in_default-clause-judged
returns-in_default-clause-judged c =
    removal-none c.args.number c.args.self.now.table
    (sym c.kept.ensures ∙ ap (λ (o : Option (Bor Checkpoint)). option_copied o) c.in_default.is)

pub returns-in-Some-reason_to_stay-clause-judged : goal.returns-in-Some-reason_to_stay-clause-judged
returns-in-Some-reason_to_stay-clause-judged c =
    let t = c.args.self.now.table in
    let found = c.in-Some.checkpoint.now in
    let reason = c.in-Some-reason_to_stay.reason in
    removal-kept c.args.number t found (Some reason) (sym c.in-Some.ensures)
    (reason-is t c.latest.result.now found
    (Some reason) c.latest.ensures.latest c.in-Some-reason_to_stay.ensures)

-- it may go
goes : (c : goal.After-take_out)
    → reason_to_stay c.args.self.now.table.latest.number (checkpoint_row c.in-Some.checkpoint.now) ≡ None
goes c =
    reason-is c.args.self.now.table c.latest.result.now c.in-Some.checkpoint.now None c.latest.ensures.latest
    (sym c.in_default-reason_to_stay.is ∙ c.reason_to_stay.ensures)

pub returns-clause-judged : goal.returns-clause-judged
returns-clause-judged c =
    removal-kept c.args.number c.args.self.now.table c.in-Some.checkpoint.now None (sym c.in-Some.ensures)
    (goes c)

pub returns-clause-told : goal.returns-clause-told
returns-clause-told c =
    let t = c.args.self.now.table in
    let n = c.args.number in
    let apart =
    going-apart t c.latest.ensures.table n c.in-Some.checkpoint.now (sym c.in-Some.ensures) (goes c) in
    ap rows c.take_out.ensures ∙ rows-without (n ∷ []) t (ap (λ b. b || false) apart)

pub returns-clause-low : goal.returns-clause-low
returns-clause-low c =
    going-low c.args.self.now.table c.latest.ensures.table c.args.number c.in-Some.checkpoint.now
    (sym c.in-Some.ensures) (goes c)
