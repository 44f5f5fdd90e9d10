use Rattle.std.proofs.Common.{◌∙◌, ◌-◌, ℕ, ap, subst, sym}
use Rattle.nl_types.specs.Blocks.NeedLaws.{AreGone}
use Rattle.nl_types.specs.Plain.Protection as protection
use Rattle.nl_cpfile.specs.declared.checkpoint.Checkpoint.{Checkpoint}
use Rattle.nl_cpfile.specs.Searching.{IsLeastAbove}
use Rattle.nl_cpfile.specs.Tables as tables
use Rattle.nl_protect.proofs.Gone.{run-none, run-some}
use Rattle.nl_protect.proofs.protection.expiring_run.Goals as goal

pub returns-in-Some-clause-run : goal.returns-in-Some-clause-run
returns-in-Some-clause-run c =
    let t = c.args.kept.now.table in
    run-some t c.args.below c.requires c.in-Some.first c.first_above-next.result c.latest.ensures.table.rising
    (sym c.first_expiring.ensures.first ∙ c.in-Some.is)
    (subst (λ (n : ℕ). IsLeastAbove n (tables.kept_numbers (tables.all t)) c.first_above-next.result)
    (c.new-last.ensures ∙ ap (λ n. n - 1) c.get.ensures) c.first_above-next.ensures)

pub returns-in-None-clause-run : goal.returns-in-None-clause-run
returns-in-None-clause-run c =
    let t = c.args.kept.now.table in
    subst (λ (x : Checkpoint).
    AreGone x.number x.number (tables.kept_numbers (tables.all t))
    (protection.staying_numbers c.args.below (tables.rows t)))
    (sym c.latest.ensures.latest)
    (run-none t c.args.below c.requires (sym c.first_expiring.ensures.first ∙ c.in-None.is))
