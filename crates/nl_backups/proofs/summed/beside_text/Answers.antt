use Rattle.std.proofs.Common.{◌≡◌, [], Option, subst}
use Rattle.std.specs.Prelude.{◌↔◌}
use Rattle.nl_damage.specs.declared.sums.comparing.Comparison.{Comparison}
use Rattle.nl_damage.specs.SumComparing.{NoneDifferFrom, differing_told}
use Rattle.nl_backups.proofs.summed.beside_text.Goals as goal

pub returns-in-Some-clause-exact : goal.returns-in-Some-clause-exact
returns-in-Some-clause-exact c =
    subst (λ (o : Option Comparison).
    (differing_told o ≡ []) ↔ NoneDifferFrom c.args.image.now c.args.text.now) c.in-Some.is
    c.in_ok-comparison.ensures.exact
