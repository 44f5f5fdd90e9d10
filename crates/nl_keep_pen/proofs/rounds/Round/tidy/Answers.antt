use Rattle.std.proofs.lemmas.Result.{err_from_is_err_and, on_ok_weaker}
use Rattle.nl_commit.specs.Layout.{MeansWorld}
use Rattle.nl_keep.specs.Facts.Tidied.{leads_on}
use Rattle.nl_keep_pen.proofs.RoundSteps.{removal_tidies}
use Rattle.nl_keep_pen.proofs.rounds.Round.tidy.Goals as goal

pub returns-clause-tidies : goal.returns-clause-tidies
returns-clause-tidies g c =
    let moment = c.args.self.now.moment in
    let old = c.args.volume.now.pen in
    let mid = c.remove_minor.new.volume.pen in
    let new = c.clean.new.pen in
    on_ok_weaker c.clean.result (λ tidies.
    leads_on moment (MeansWorld old) (MeansWorld mid) (MeansWorld new)
    (removal_tidies c.minor_removals_only_tidy.ensures moment old mid c.in_ok-remove_minor.ensures.removed) tidies)
    c.clean.ensures.tidies

pub returns-in_err-remove_minor-clause-refused : goal.returns-in_err-remove_minor-clause-refused
returns-in_err-remove_minor-clause-refused g c =
    let p = err_from_is_err_and c.from_residual.result c.from_residual.ensures.1 in
    let world = c.means_a_world.ensures.world in
    rw (p.1, p.2) (c.in_err-remove_minor.ensures.refused world.0 world.1)
