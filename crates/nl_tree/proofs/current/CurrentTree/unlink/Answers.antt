use Rattle.std.proofs.Common.{◌≡◌, ◌+◌, ◌≤◌, OnOk, refl, sym, subst, ◌∙◌}
use Rattle.std.proofs.lemmas.Result.{on_ok_weaker}
use Rattle.nl_types.specs.declared.kind.Kind.TheVariants as kind
use Rattle.nl_types.specs.Plain.Calls.{unlink}
use Rattle.nl_tree.specs.Became.{Current, holding_over}
use Rattle.nl_tree.specs.Overlays.{current_of}
use Rattle.nl_tree.specs.Private.PathParts.{parts_of}
use Rattle.nl_tree.specs.Steps.{without_inode}
use Rattle.nl_tree.proofs.CallsJudged.{unlink-absent, unlink-directory, unlink-refused}
use Rattle.nl_tree.proofs.CallsStand.{removed-changes, unlinked-calls}
use Rattle.nl_tree.proofs.OneHolding.{as_lists, counts_inside, counts_outside, directory_inside}
use Rattle.nl_tree.proofs.PlacesFound.{at-parts, taken-from}
use Rattle.nl_tree.proofs.current.CurrentTree.unlink.Goals as goal

pub returns-in-Err-clause-done : goal.returns-in-Err-clause-done
returns-in-Err-clause-done g c = λ b tree holds is _.
    let names = c.in_ok-names.names.now in
    let held = holding_over c.args.self.now.became b in
    at-parts (unlink tree) c.args.path.now names c.in_ok-names.ensures c.if-is_empty.ensures
    ∙ unlink-refused held tree is.stands.means (parts_of names) c.in-Err.refusal
    (c.in-Err.ensures held (c.view.ensures b holds is.sound))

pub returns-in-None-clause-done : goal.returns-in-None-clause-done
returns-in-None-clause-done g c = λ b tree holds is _.
    let names = c.in_ok-names.names.now in
    let held = holding_over c.args.self.now.became b in
    let place = c.in-Ok.place in
    at-parts (unlink tree) c.args.path.now names c.in_ok-names.ensures c.if-is_empty.ensures
    ∙ unlink-absent held tree is.stands.means (parts_of names) place.directory place.name.now
    (rw c.in-None.is at (c.in-Ok.ensures held (c.view.ensures b holds is.sound)))

pub returns-in-Some-default-Directory-clause-done : goal.returns-in-Some-default-Directory-clause-done
returns-in-Some-default-Directory-clause-done g c = λ b tree holds is _.
    let names = c.in_ok-names.names.now in
    let held = holding_over c.args.self.now.became b in
    let place = c.in-Ok.place in
    let found = c.in-Some-default-Directory in
    let there =
    taken-from held tree c.args.self.now.names is.sound is.stands
    (parts_of names) place.directory place.name.now
    place.link found.field-0-0 found.field-0-0 found.field-0-1 kind.Directory
    (c.in-Ok.ensures held (c.view.ensures b holds is.sound)) found.is refl
    (rw found.is at found.field-0-1-is) in
    at-parts (unlink tree) c.args.path.now names c.in_ok-names.ensures c.if-is_empty.ensures
    ∙ unlink-directory held tree is.stands.means
    (parts_of names) place.directory place.name.now found.field-0-0 there.place

pub remove-requires : goal.remove-requires
remove-requires g c =
    let asked = c.requires in
    let b = asked.0 in
    let is = asked.3 in
    let names = c.in_ok-names.names.now in
    let held = holding_over c.args.self.now.became b in
    let place = c.in-Ok.place in
    let found = c.in-Some-default-File in
    let there =
    taken-from held asked.1 c.args.self.now.names is.sound is.stands
    (parts_of names) place.directory place.name.now
    place.link found.inode found.inode found.field-0-1 kind.File
    (c.in-Ok.ensures held (c.view.ensures b asked.2 is.sound)) found.is refl
    (rw found.is at found.field-0-1-is) in
    record {
      directory = (
        b,
        there.records,
        asked.2,
        directory_inside c.self.inside.overlay c.args.self.now b place.directory there.records
            c.self.invariant c.self.view_is there.is,
      );
      counted = subst (λ (now : Current). 1 ≤ now.names) (sym c.self.view_is) there.counted;
    }

pub returns-in-Some-default-File-clause-done : goal.returns-in-Some-default-File-clause-done
returns-in-Some-default-File-clause-done g c = λ b tree holds is.
    let names = c.in_ok-names.names.now in
    let held = holding_over c.args.self.now.became b in
    let place = c.in-Ok.place in
    let found = c.in-Some-default-File in
    let there =
    taken-from held tree c.args.self.now.names is.sound is.stands
    (parts_of names) place.directory place.name.now
    place.link found.inode found.inode found.field-0-1 kind.File
    (c.in-Ok.ensures held (c.view.ensures b holds is.sound)) found.is refl
    (rw found.is at found.field-0-1-is) in
    let o = c.self.inside.overlay in
    let here =
    directory_inside o c.args.self.now b place.directory there.records c.self.invariant c.self.view_is
    there.is in
    let orderly = c.remove.ensures.orderly c.self.invariant there.numbers.0 there.numbers.1 in
    let removed =
    as_lists o c.remove.new.self c.args.self.now b
    (without_inode place.directory there.records place.name.now found.inode)
    c.remove.result c.self.invariant orderly c.self.view_is
    (c.remove.ensures.removed b there.records holds here) in
    unlinked-calls c.args.self.now b tree is c.args.path.now names c.in_ok-names.ensures c.if-is_empty.ensures
    place.directory place.name.now found.inode there.records c.remove.result (current_of c.remove.new.self)
    there.place there.is.0 removed
    (on_ok_weaker c.remove.result (counts_outside c.remove.new.self b orderly)
    (c.remove.ensures.counts b there.records holds here
    (counts_inside o c.args.self.now b c.self.invariant c.self.view_is is.counts)
    there.ordinary.0 there.ordinary.1))
    (subst (λ (now : Current). OnOk c.remove.result (c.remove.new.self.names + 1 ≡ now.names)) c.self.view_is
    c.remove.ensures.names)
    c.remove.ensures.refused

pub returns-in-Some-default-File-clause-changes : goal.returns-in-Some-default-File-clause-changes
returns-in-Some-default-File-clause-changes g c = λ b tree holds is.
    let names = c.in_ok-names.names.now in
    let held = holding_over c.args.self.now.became b in
    let place = c.in-Ok.place in
    let found = c.in-Some-default-File in
    let there =
    taken-from held tree c.args.self.now.names is.sound is.stands
    (parts_of names) place.directory place.name.now
    place.link found.inode found.inode found.field-0-1 kind.File
    (c.in-Ok.ensures held (c.view.ensures b holds is.sound)) found.is refl
    (rw found.is at found.field-0-1-is) in
    let o = c.self.inside.overlay in
    let here =
    directory_inside o c.args.self.now b place.directory there.records c.self.invariant c.self.view_is
    there.is in
    let orderly = c.remove.ensures.orderly c.self.invariant there.numbers.0 there.numbers.1 in
    let removed =
    as_lists o c.remove.new.self c.args.self.now b
    (without_inode place.directory there.records place.name.now found.inode)
    c.remove.result c.self.invariant orderly c.self.view_is
    (c.remove.ensures.removed b there.records holds here) in
    removed-changes c.args.self.now b tree is c.args.path.now names c.in_ok-names.ensures
    c.if-is_empty.ensures
    kind.File place.directory place.name.now found.inode there.records c.remove.result
    (current_of c.remove.new.self)
    there.place there.is.0 removed

pub invariant_of-self : goal.invariant_of-self
invariant_of-self g c =
    let asked = c.requires in
    let b = asked.0 in
    let is = asked.3 in
    let names = c.in_ok-names.names.now in
    let held = holding_over c.args.self.now.became b in
    let place = c.in-Ok.place in
    let found = c.in-Some-default-File in
    let there =
    taken-from held asked.1 c.args.self.now.names is.sound is.stands
    (parts_of names) place.directory place.name.now
    place.link found.inode found.inode found.field-0-1 kind.File
    (c.in-Ok.ensures held (c.view.ensures b asked.2 is.sound)) found.is refl
    (rw found.is at found.field-0-1-is) in
    c.remove.ensures.orderly c.self.invariant there.numbers.0 there.numbers.1
