use Rattle.std.proofs.Common.{ℕ, subst}
use Rattle.nl_cleaner.specs.Plan.{AreVictims, least_freed, most_taken}
use Rattle.nl_cleaner.proofs.planning.oldest_asked.Goals as goal

pub returns-clause-victims : goal.returns-clause-victims
returns-clause-victims g c =
    let l = c.args.pen.now in
    let config = c.args.config.now in
    let victims = c.in_ok-victims.field-0.items in
    subst (λ (below : ℕ). AreVictims l below (least_freed l config) (most_taken l config) victims)
    c.boundary-below.ensures.layout
    (subst (λ (least : ℕ). AreVictims l c.boundary-below.result least (most_taken l config) victims)
    c.least_freed-least.ensures
    (subst (λ (most : ℕ). AreVictims l c.boundary-below.result c.least_freed-least.result most victims)
    c.most_taken-most.ensures
    (c.in_ok-victims.ensures c.boundary-below.result c.in_ok-needed.ensures.counts)))
