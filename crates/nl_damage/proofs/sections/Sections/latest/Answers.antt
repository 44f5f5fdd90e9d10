use Rattle.std.proofs.Common.{ℕ, ◌-◌, ◌∙◌, ap, sym}
use Rattle.nl_damage.proofs.LatestRead.{is_latest, only_latest}
use Rattle.nl_damage.proofs.sections.Sections.latest.Goals as goal

pub returns-in-None-clause-latest : goal.returns-in-None-clause-latest
returns-in-None-clause-latest c =
    is_latest c.args.self c.saturating_sub.result c.new.result
    (c.saturating_sub.ensures ∙ ap (λ (n : ℕ). n - 1) c.entries.ensures) c.in-None.ensures.only c.new.ensures

pub returns-in-None-clause-only : goal.returns-in-None-clause-only
returns-in-None-clause-only c n is =
    only_latest c.args.self c.saturating_sub.result n
    (c.saturating_sub.ensures ∙ ap (λ (k : ℕ). k - 1) c.entries.ensures) c.in-None.ensures.only is
    ∙ sym c.new.ensures
