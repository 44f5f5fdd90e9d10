use Rattle.std.proofs.Common.{◌≡◌, inl, inr, refl}
use Rattle.std.proofs.lemmas.Result.{err_from_is_err_and}
use Rattle.nl_folders.proofs.Emptied.{IsTree-emptied, new_files, old_files, pass_over, refused_emptied}
use Rattle.nl_folders.specs.Passing.{emptied}
use Rattle.nl_folders.proofs.passing.folder_differences.Goals as goal

pub returns-clause-differ : goal.returns-clause-differ
returns-clause-differ g c one other t u shows shown same =
    let known = g.K.Knowledge.known c.args.knowledge.now in
    let first : c.in_ok-one.one ≡ emptied known one =
    c.in_ok-one.ensures.whole (emptied known one) (IsTree-emptied known one t)
    (one, t, old_files known one other same, shows, refl) in
    let second : c.in_ok-other.other ≡ emptied known other =
    c.in_ok-other.ensures.whole (emptied known other) (IsTree-emptied known other u)
    (other, u, new_files known one other same, shown, refl) in
    let passed = pass_over one other known t.ordered u.ordered same in
    cc (c.as_slice.ensures, c.as_slice-2.ensures, c.in_ok-all.ensures)

pub returns-in_err-one-clause-refused : goal.returns-in_err-one-clause-refused
returns-in_err-one-clause-refused g c =
    let p = err_from_is_err_and c.from_residual.result c.from_residual.ensures.1 in
    rw (p.1, p.2) (λ one other t u shows shown same.
    let known = g.K.Knowledge.known c.args.knowledge.now in
    inl (refused_emptied known one c.in_err-one.field-0.0
    (c.in_err-one.ensures.refused (emptied known one) (IsTree-emptied known one t)
    (one, t, old_files known one other same, shows, refl))))

pub returns-in_err-other-clause-refused : goal.returns-in_err-other-clause-refused
returns-in_err-other-clause-refused g c =
    let exits = c.from_residual-in_err-other in
    let p = err_from_is_err_and exits.result exits.ensures.1 in
    rw (p.1, p.2) (λ one other t u shows shown same.
    let known = g.K.Knowledge.known c.args.knowledge.now in
    inr (refused_emptied known other c.in_err-other.field-0.0
    (c.in_err-other.ensures.refused (emptied known other) (IsTree-emptied known other u)
    (other, u, new_files known one other same, shown, refl))))
