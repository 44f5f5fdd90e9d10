use Rattle.std.proofs.Common.{[], ◌∷◌, ap, ◌∙◌}
use Rattle.std.specs.Option.{is_some}
use Rattle.std.proofs.lemmas.Result.{err_from_is_err_and}
use Rattle.std.specs.FinMap.{find, is_sorted}
use Rattle.nl_types.specs.Plain.Paths.{path_cmp}
use Rattle.nl_manifests.specs.HostTrees.{HostTree}
use Rattle.nl_keep_pen.proofs.ChangeLists.{first_is, refuses_one}
use Rattle.nl_keep_pen.proofs.Changes.{is_some_copied, shows_anything}
use Rattle.nl_keep_pen.proofs.history.shows_anything.Goals as goal

pub returns-in_err-shown-clause-refused : goal.returns-in_err-shown-clause-refused
returns-in_err-shown-clause-refused g c =
    let p = err_from_is_err_and c.from_residual.result c.from_residual.ensures.1 in
    rw (p.1, p.2) (λ w means kept.
    refuses_one w c.in_err-shown.field-0.0 (c.args.number ∷ []) c.args.number (first_is c.args.number []) kept
    (λ copy is. c.in_err-shown.ensures.refused w copy means is))

pub returns-clause-shows : goal.returns-clause-shows
returns-clause-shows g c w means kept =
    let copy = kept c.args.number (first_is c.args.number []) in
    let shows = c.in_ok-shown.ensures.shows w copy.0 means copy.1 in
    shows_anything w c.args.number copy.0 c.args.path.now c.in_ok-shown.shown.tree c.is_some.result copy.1 shows.shows
    (c.is_some.ensures ∙ is_some_copied c.find_in.result
    ∙ ap is_some (c.find_in.ensures (ap (is_sorted path_cmp) c.as_slice.ensures ∙ shows.shows.ordered))
    ∙ ap (λ (es : HostTree). is_some (find path_cmp c.args.path.now es)) c.as_slice.ensures)
