use Rattle.std.proofs.Common.{[], ◌∷◌, ◌∙◌}
use Rattle.std.proofs.lemmas.Result.{err_from_is_err_and}
use Rattle.nl_manifests.specs.HostDifferences.{differences_by, told_by}
use Rattle.nl_keep_pen.proofs.ChangeLists.{first_is, refuses_both, refuses_one, second_is}
use Rattle.nl_keep_pen.proofs.Changes.{shown_differ, trees_differ, whole_told}
use Rattle.nl_keep_pen.proofs.history.shown_differences.Goals as goal

pub returns-in_err-of_objects-clause-refused : goal.returns-in_err-of_objects-clause-refused
returns-in_err-of_objects-clause-refused g c =
    let p = err_from_is_err_and c.from_residual.result c.from_residual.ensures.1 in
    rw (p.1, p.2) (λ w means kept.
    refuses_both w c.in_err-of_objects.field-0.0 c.args.old c.args.new kept
    (λ one other in_old in_new. c.in_err-of_objects.ensures.refused w one other means in_old in_new))

pub returns-in_err-before-clause-refused : goal.returns-in_err-before-clause-refused
returns-in_err-before-clause-refused g c =
    let exits = c.from_residual-in_err-before in
    let p = err_from_is_err_and exits.result exits.ensures.1 in
    let both = c.args.old ∷ c.args.new ∷ [] in
    rw (p.1, p.2) (λ w means kept.
    refuses_one w c.in_err-before.field-0.0 both c.args.old (first_is c.args.old (c.args.new ∷ [])) kept
    (λ copy is. c.in_err-before.ensures.refused w copy means is))

pub returns-in_err-after-clause-refused : goal.returns-in_err-after-clause-refused
returns-in_err-after-clause-refused g c =
    let exits = c.from_residual-in_err-after in
    let p = err_from_is_err_and exits.result exits.ensures.1 in
    let both = c.args.old ∷ c.args.new ∷ [] in
    rw (p.1, p.2) (λ w means kept.
    refuses_one w c.in_err-after.field-0.0 both c.args.new (second_is c.args.old c.args.new) kept
    (λ copy is. c.in_err-after.ensures.refused w copy means is))

pub returns-clause-differ : goal.returns-clause-differ
returns-clause-differ g c w path means =
    shown_differ c.differences_are_exact.ensures c.differences_need_no_bytes.ensures
    c.host_differences_are_exact.ensures w c.args.old c.args.new means.world c.in_ok-of_objects.of_objects
    c.in_ok-of_objects-2.of_objects c.in_ok-before.before.tree c.in_ok-after.after.tree c.in_ok-all.all
    (c.in_ok-of_objects.ensures.differ w means) c.in_ok-of_objects-2.ensures
    (λ copy is. (c.in_ok-before.ensures.shows w copy means is).shows)
    (λ copy is. (c.in_ok-after.ensures.shows w copy means is).shows)
    (c.in_ok-all.ensures
    ∙ (λ i. differences_by (told_by (c.as_slice-3.ensures i)) (c.as_slice.ensures i) (c.as_slice-2.ensures i)))
    path

pub returns-clause-tells : goal.returns-clause-tells
returns-clause-tells g c w one other means in_old in_new =
    let bare_old = c.in_ok-before.ensures.shows w one means in_old in
    let bare_new = c.in_ok-after.ensures.shows w other means in_new in
    let told =
    whole_told c.differences_are_exact.ensures c.differences_need_no_bytes.ensures one.tree other.tree
    (means.world.trees c.args.old one in_old) (means.world.trees c.args.new other in_new)
    c.in_ok-of_objects-2.of_objects c.in_ok-before.before.tree c.in_ok-after.after.tree c.in_ok-all.all
    (trees_differ c.differences_are_exact.ensures c.differences_need_no_bytes.ensures
    c.host_differences_are_exact.ensures w c.args.old c.args.new c.in_ok-of_objects.of_objects
    c.in_ok-of_objects-2.of_objects one other (c.in_ok-of_objects.ensures.differ w means) in_old in_new
    c.in_ok-of_objects-2.ensures)
    bare_old.shows bare_new.shows
    (c.in_ok-all.ensures
    ∙ (λ i. differences_by (told_by (c.as_slice-3.ensures i)) (c.as_slice.ensures i) (c.as_slice-2.ensures i))) in
    record {
      bare_old = bare_old;
      bare_new = bare_new;
      one = told.0;
      shows_one = told.1;
      other = told.2;
      shows_other = told.3;
      exact = told.4;
    }
