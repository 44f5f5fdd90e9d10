use Rattle.std.proofs.Common.{inl, refl}
use Rattle.std.proofs.lemmas.Result.{IfOk-from_err, err_from_is_err_and, on_ok_weaker}
use Rattle.nl_tree.specs.Became.{holding_over}
use Rattle.nl_tree.specs.Held.{Holding}
use Rattle.nl_tree.specs.Private.PathParts.{parts_of}
use Rattle.nl_tree.proofs.RenamesJudged.{path_of-injective, path_of-last}
use Rattle.nl_tree.proofs.PlacesFound.{place-listed}
use Rattle.nl_tree.specs.Facts.Refusals.{holds_on_err}
use Rattle.nl_tree.proofs.RenamesMake.{has-renamed}
use Rattle.nl_tree.proofs.current.CurrentTree.rename.Goals as goal

pub returns-in_err-names-clause-done : goal.returns-in_err-names-clause-done
returns-in_err-names-clause-done g c = λ b tree holds over.
    let given = err_from_is_err_and c.from_residual.result c.from_residual.ensures.1 in
    rw (given.1, given.2) (λ _. c.in_err-names.ensures tree)

pub move_to_place-requires-clause-name : goal.move_to_place-requires-clause-name
move_to_place-requires-clause-name g c =
    let asked = c.requires in
    let move =
    rw c.in-Ok-Some.field-0-is at
    (c.in-Ok-Some.ensures (holding_over c.args.self.now.became asked.0)
    (c.view.ensures asked.0 asked.2 asked.3.sound)) in
    path_of-last c.args.to.now
    (parts_of c.in_ok-names.target_names.now) move.target_place.dir c.in-Ok-Some.found.target.name.now
    c.in_ok-names.ensures.1 move.target_place.is_path

pub returns-in-Ok-None-clause-changes : goal.returns-in-Ok-None-clause-changes
returns-in-Ok-None-clause-changes g c = λ b tree holds over.
    let nothing =
    rw c.in-Ok-None.field-0-is at
    (c.in-Ok-None.ensures (holding_over c.args.self.now.became b)
    (c.view.ensures b holds over.sound)) in
    inl (
      path_of-injective c.args.from.now c.args.to.now (parts_of c.in_ok-names.names.now)
          (parts_of c.in_ok-names.target_names.now)
          c.in_ok-names.ensures.0 c.in_ok-names.ensures.1 nothing.same,
      λ i. refl,
    )

pub returns-in-Ok-Some-clause-changes : goal.returns-in-Ok-Some-clause-changes
returns-in-Ok-Some-clause-changes g c = λ b tree holds over.
    let old : Holding = holding_over c.args.self.now.became b in
    let new : Holding = holding_over c.move_to_place.new.self.became b in
    let found = c.in-Ok-Some.found in
    let names = parts_of c.in_ok-names.names.now in
    let target_names = parts_of c.in_ok-names.target_names.now in
    let move = rw c.in-Ok-Some.field-0-is at (c.in-Ok-Some.ensures old (c.view.ensures b holds over.sound)) in
    let here =
    place-listed old tree over.sound over.stands.means names found.directory found.name.now _
    move.place in
    let there =
    place-listed old tree over.sound over.stands.means target_names found.target.directory
    found.target.name.now _ move.target_place in
    on_ok_weaker c.move_to_place.result
    (has-renamed c.args.from.now c.args.to.now names target_names old new found.directory found.name.now
    found.link
    found.target.directory found.target.name.now found.target.link here.0 there.0 c.in_ok-names.ensures.0
    c.in_ok-names.ensures.1 move here.1 there.1)
    (c.move_to_place.ensures.moved b here.0 there.0 holds (here.1, there.1))

pub returns-in_err-names-clause-changes : goal.returns-in_err-names-clause-changes
returns-in_err-names-clause-changes g c = λ _ _ _ _.
    IfOk-from_err c.from_residual.result _ c.from_residual.ensures.0

pub returns-in_err-names-clause-same : goal.returns-in_err-names-clause-same
returns-in_err-names-clause-same g c = holds_on_err c.from_residual.result _ refl

pub returns-in-Err-clause-changes : goal.returns-in-Err-clause-changes
returns-in-Err-clause-changes g c = λ _ _ _ _. tt

pub returns-in-Err-clause-same : goal.returns-in-Err-clause-same
returns-in-Err-clause-same g c = refl

pub returns-in-Ok-None-clause-same : goal.returns-in-Ok-None-clause-same
returns-in-Ok-None-clause-same g c = tt

pub returns-in-Ok-Some-clause-same : goal.returns-in-Ok-Some-clause-same
returns-in-Ok-Some-clause-same g c = c.move_to_place.ensures.same
