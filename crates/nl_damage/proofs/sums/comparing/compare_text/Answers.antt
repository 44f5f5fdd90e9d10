use Rattle.nl_damage.proofs.SumsBeside.{exact_text}
use Rattle.nl_damage.proofs.sums.comparing.compare_text.Goals as goal

pub returns-in_ok-comparison-in-Some-clause-exact : goal.returns-in_ok-comparison-in-Some-clause-exact
returns-in_ok-comparison-in-Some-clause-exact c =
    exact_text c.args.image.now c.args.text.now c.in-Some.saved c.in_ok-saved.field-0
    c.in_ok-comparison-in-Some.comparison c.in-Some.is c.in_ok-saved.ensures.found c.in_ok-saved.ensures.only
    c.in_ok-comparison-in-Some.ensures.exact
