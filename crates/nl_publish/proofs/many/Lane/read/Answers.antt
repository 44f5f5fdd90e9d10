use Rattle.std.proofs.Common.{◌≡◌, ℕ, List, ap, sym, ◌∙◌, subst, Some, Err}
use Rattle.nl_types.specs.declared.error.VolError.TheVariants.{BadMount}
use Rattle.std.specs.Prelude.{slice_get}
use Rattle.std.proofs.lemmas.Option.{slice_get-get_or}
use Rattle.nl_publish.specs.Jobs.{ArePlaced, LaneView}
use Rattle.nl_publish.specs.Reading.{IsBytesOf, Told}
use Rattle.nl_publish.proofs.Lanes.{placed, placed_more}
use Rattle.nl_publish.proofs.many.Lane.read.Goals as goal

pub returns-clause-answers : goal.returns-clause-answers
returns-clause-answers g c =
    let m = c.args.mount.now in let jobs = c.args.jobs.now in let job = c.index-jobs-index.result in
    let was = ap (λ (l : LaneView g.row.P.Denot). l.answers) c.self.view_is in
    let at : slice_get jobs c.args.index ≡ Some job =
    slice_get-get_or jobs c.args.index job c.requires.index ∙ ap Some (sym c.index-jobs-index.is) in
    let told =
    subst (λ (p : List ℕ).
    Told m (c.read-answer.result ≡ Err BadMount)
    (λ t. IsBytesOf t p job.offset job.len c.read-answer.result))
    c.as_slice.ensures c.read-answer.ensures.told in
    placed_more m jobs c.self.inside.answers.items c.push_answer.new.answers.items
    (c.args.index, c.read-answer.result) (subst (ArePlaced m jobs) (sym was) c.requires.answers)
    (placed m jobs c.args.index job c.read-answer.result at told)
    c.push_answer.ensures
