use Rattle.std.proofs.Common.{ap, subst, ◌∙◌}
use Rattle.std.proofs.lemmas.Result.{err_from_is_err_and}
use Rattle.nl_types.specs.Plain.Calls.{list}
use Rattle.nl_types.specs.Plain.Paths.{Path}
use Rattle.nl_folders.specs.Refusals.{RefusesPath}
use Rattle.nl_folders.proofs.folder.visit_directory.Goals as goal

pub returns-in_err-names-clause-refused : goal.returns-in_err-names-clause-refused
returns-in_err-names-clause-refused g c =
    let p = err_from_is_err_and c.from_residual.result c.from_residual.ensures.1 in
    rw (p.1, p.2) (λ tree names shows is.
    subst (λ (path : Path). RefusesPath path c.in_err-names.field-0.0) c.as_slice.ensures
    (c.in_err-names.ensures.refused tree names shows (ap (list tree) c.as_slice.ensures ∙ is)))
