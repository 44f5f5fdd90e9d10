use Rattle.std.proofs.Common.{[], ◌∷◌, ◌++◌, refl}
use Rattle.std.proofs.lemmas.Result.{err_from_is_err_and}
use Rattle.nl_tree.specs.Held.{inodes_of_holding}
use Rattle.nl_tree.proofs.FindingPlaces.{directory_walked, parts_walked, place_found, place_refused}
use Rattle.nl_tree.proofs.paths.find_place.Goals as goal

pub loop-name-init : goal.loop-name-init
loop-name-init g c = ([], refl, λ held h. rw c.new-directory.ensures refl)

pub returns-in_err-directory : goal.returns-in_err-directory
returns-in_err-directory g c = λ held h.
    let given = err_from_is_err_and c.from_residual.result c.from_residual.ensures.1 in
    let so_far = c.loop-name.invariant in
    rw (given.1, given.2)
    (place_refused c.args.names.now c.loop-name.rest.now so_far.0 so_far.1 held c.loop-name.directory
    c.in-Some.name.now c.in-Some.behind.now c.in_err-directory.field-0.0 c.in-Some.ensures (so_far.2 held h)
    (c.in_err-directory.ensures held h))

pub loop-name-preserved : goal.loop-name-preserved
loop-name-preserved g c =
    let so_far = c.loop-name.invariant in (
      so_far.0 ++ c.in-Some.name.now ∷ [],
      parts_walked c.args.names.now c.loop-name.rest.now so_far.0 so_far.1 c.in-Some.name.now
          c.in-Some.behind.now c.in-Some.ensures,
      λ held h.
          directory_walked c.args.names.now c.loop-name.rest.now so_far.0 so_far.1 (inodes_of_holding held)
          c.loop-name.directory c.in_ok-directory.directory c.in-Some.name.now (so_far.2 held h)
          (c.in_ok-directory.ensures held h),
    )

pub returns : goal.returns
returns g c = λ held h.
    let so_far = c.loop-name.invariant in
    place_found c.args.names.now c.loop-name.rest.now so_far.0 so_far.1 held c.loop-name.directory
    c.find.result
    c.in_default.ensures (so_far.2 held h) (c.find.ensures held h)
