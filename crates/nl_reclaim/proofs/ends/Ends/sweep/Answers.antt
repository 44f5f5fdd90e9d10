use Rattle.std.proofs.Common.{ap, rules, ◌∙◌}
use Rattle.std.proofs.lemmas.Fn.{filter_same}
use Rattle.nl_reclaim.specs.EndLists.{RoomyEnds, has_number, swept}
use Rattle.nl_reclaim.proofs.ends.Ends.sweep.Goals as goal

pub returns-clause-swept : goal.returns-clause-swept
returns-clause-swept c =
    filter_same _ has_number _ (λ x b f' k. search rules) _ _ c.retain.ensures.filtered
    ∙ ap (λ (r : RoomyEnds). swept r.ended) c.self.view_is
