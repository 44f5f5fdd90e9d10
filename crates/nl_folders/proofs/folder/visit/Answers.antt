use Rattle.std.proofs.Common.{ap, subst, ◌∙◌}
use Rattle.std.proofs.lemmas.Result.{err_from_is_err_and}
use Rattle.nl_types.specs.Plain.Calls.{file_at}
use Rattle.nl_types.specs.Plain.Paths.{Path}
use Rattle.nl_folders.specs.Refusals.{RefusesPath}
use Rattle.nl_folders.proofs.Walks.{directory_answers, file_answers}
use Rattle.nl_folders.proofs.folder.visit.Goals as goal

pub returns-in_err-bytes-in-File-clause-refused : goal.returns-in_err-bytes-in-File-clause-refused
returns-in_err-bytes-in-File-clause-refused g c =
    let p = err_from_is_err_and c.from_residual.result c.from_residual.ensures.1 in
    rw (p.1, p.2) (λ tree t shows stands.
    let file = file_answers tree c.args.next.now t c.in-File.is stands in
    subst (λ (path : Path). RefusesPath path c.in_err-bytes-in-File.field-0.0) c.as_slice.ensures
    (c.in_err-bytes-in-File.ensures.refused tree file.0 shows (ap (file_at tree) c.as_slice.ensures ∙ file.1)))

pub returns-in_err-visit_directory-in-Directory-clause-refused :
    goal.returns-in_err-visit_directory-in-Directory-clause-refused
returns-in_err-visit_directory-in-Directory-clause-refused g c =
    let exits = c.from_residual-in_err-visit_directory-in-Directory in
    let p = err_from_is_err_and exits.result exits.ensures.1 in
    rw (p.1, p.2) (λ tree t shows stands.
    let names = directory_answers tree c.args.next.now t c.in-Directory.is stands in
    c.in_err-visit_directory-in-Directory.ensures.refused tree names.0 shows names.1)
