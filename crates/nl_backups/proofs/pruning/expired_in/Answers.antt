use Rattle.std.proofs.Common.{List, sym, ap, ◌∙◌, subst}
use Rattle.nl_pins.specs.declared.rules.Dated.{Dated}
use Rattle.nl_pins.specs.Retention.{Descend, expired}
use Rattle.nl_backups.proofs.Candidates.{are_expired, candidates_descend}
use Rattle.nl_backups.proofs.pruning.expired_in.Goals as goal

pub expired-requires : goal.expired-requires
expired-requires c =
    subst (λ (all : List Dated). Descend all) (sym (c.as_slice.ensures.value ∙ c.in_ok-dated.ensures))
    (candidates_descend c.in_ok-pins.pins.lines c.args.rows.now c.args.periods.now c.requires)

pub returns-clause-expired : goal.returns-clause-expired
returns-clause-expired c image of has_rows =
    are_expired c.args.rules.now c.args.periods.now c.in_ok-pins.pins.lines c.args.rows.now c.from_vec.result image
    (c.in_ok-pins.ensures.lines image of) has_rows
    (c.from_vec.ensures
    ∙ c.in_ok-numbers.ensures
    ∙ ap (λ (all : List Dated). expired c.args.rules.now all)
    (c.as_slice.ensures.value ∙ c.in_ok-dated.ensures))
