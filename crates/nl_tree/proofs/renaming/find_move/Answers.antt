use Rattle.std.proofs.Common.{ap, sym}
use Rattle.std.specs.Cmp.Lexicographic.{other_text, same_text}
use Rattle.std.proofs.lemmas.Result.{err_from_is_err_and}
use Rattle.nl_tree.specs.Private.PathParts.{parts_of}
use Rattle.nl_tree.proofs.PathParts.{parts_of-injective}
use Rattle.nl_tree.proofs.RenamesJudged.{is-move, moves-nothing, place-taken, target-refused}
use Rattle.nl_tree.proofs.renaming.find_move.Goals as goal

pub returns-in-Err-find_place : goal.returns-in-Err-find_place
returns-in-Err-find_place g c = λ held h.
    target-refused held (parts_of c.args.names.now) (parts_of c.args.target_names.now)
    c.in-Ok.source.0.directory c.in-Ok.source.0.name.now c.in-Ok.source.1 (c.in-Ok.ensures held h)
    c.in-Err-find_place.e (c.in-Err-find_place.ensures held h)

pub returns-then-eq : goal.returns-then-eq
returns-then-eq g c = λ held h.
    let same = ap parts_of (same_text c.args.names.now c.args.target_names.now c.if-eq.ensures) in
    moves-nothing held (parts_of c.args.names.now) (parts_of c.args.target_names.now)
    c.in-Ok.source.0.directory c.in-Ok.source.0.name.now c.in-Ok.source.1 (c.in-Ok.ensures held h)
    c.in-Ok-find_place.target.directory c.in-Ok-find_place.target.name.now c.in-Ok-find_place.target.link
    (c.in-Ok-find_place.ensures held h) same

pub returns-in_err-may_replace : goal.returns-in_err-may_replace
returns-in_err-may_replace g c = λ held h.
    let given = err_from_is_err_and c.from_residual.result c.from_residual.ensures.1 in
    let differ = other_text c.args.names.now c.args.target_names.now c.if-eq.ensures in
    let taken = c.in_err-may_replace.ensures held h in
    rw (given.1, given.2) (place-taken held (parts_of c.args.names.now) (parts_of c.args.target_names.now)
    c.in-Ok.source.0.directory c.in-Ok.source.0.name.now c.in-Ok.source.1 (c.in-Ok.ensures held h)
    c.in-Ok-find_place.target.directory c.in-Ok-find_place.target.name.now c.in-Ok-find_place.target.link
    (c.in-Ok-find_place.ensures held h) c.in_err-may_replace.field-0.0
    (λ same. differ (parts_of-injective c.args.names.now c.args.target_names.now same)) (sym taken))

pub returns : goal.returns
returns g c = λ held h.
    let differ = other_text c.args.names.now c.args.target_names.now c.if-eq.ensures in
    let free = c.in_ok-may_replace.ensures held h in
    is-move held (parts_of c.args.names.now) (parts_of c.args.target_names.now)
    c.in-Ok.source.0.directory c.in-Ok.source.0.name.now c.in-Ok.source.1 (c.in-Ok.ensures held h)
    c.in-Ok-find_place.target.directory c.in-Ok-find_place.target.name.now c.in-Ok-find_place.target.link
    (c.in-Ok-find_place.ensures held h)
    (λ same. differ (parts_of-injective c.args.names.now c.args.target_names.now same)) (sym free)
