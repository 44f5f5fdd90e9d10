use Rattle.std.proofs.Common.{ap, ◌∙◌}
use Rattle.nl_cleaner.specs.Plan.{candidate_in}
use Rattle.nl_cleaner.proofs.Found.{found-next}
use Rattle.nl_cleaner.proofs.planning.candidates.Goals as goal

pub loop-number-preserved : goal.loop-number-preserved
loop-number-preserved g c = λ below is.
    found-next (candidate_in c.args.pen.now below c.args.least) c.loop-number.number c.loop-number.found.items
    c.push_found.new.found.items
    c.candidate-candidate.result (c.loop-number.invariant below is)
    (c.candidate-candidate.ensures below is
    ∙ ap (candidate_in c.args.pen.now below c.args.least) c.new.ensures)
    c.in_ok-push_found.ensures
