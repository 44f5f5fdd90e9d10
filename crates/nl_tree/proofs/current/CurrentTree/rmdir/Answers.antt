use Rattle.std.proofs.Common.{ℕ, ◌≡◌, ◌+◌, ◌≤◌, OnOk, refl, sym, subst, arith, ◌∙◌}
use Rattle.std.proofs.lemmas.Result.{on_ok_weaker}
use Rattle.nl_types.specs.declared.kind.Kind.TheVariants as kind
use Rattle.nl_types.specs.Plain.Calls.{rmdir}
use Rattle.nl_tree.specs.Became.{Current, holding_over}
use Rattle.nl_tree.specs.Held.{held_count}
use Rattle.nl_tree.specs.Overlays.{current_of}
use Rattle.nl_tree.specs.Private.PathParts.{parts_of}
use Rattle.nl_tree.specs.Steps.{without_inode}
use Rattle.nl_tree.proofs.CallsJudged.{rmdir-absent, rmdir-file, rmdir-not_empty, rmdir-refused}
use Rattle.nl_tree.proofs.CallsStand.{removed-changes, rmdired-calls}
use Rattle.nl_tree.proofs.OneHolding.{as_lists, counts_inside, counts_outside, directory_inside}
use Rattle.nl_tree.proofs.PlacesFound.{at-parts, taken-from}
use Rattle.nl_tree.proofs.current.CurrentTree.rmdir.Goals as goal

pub returns-in-Err-clause-done : goal.returns-in-Err-clause-done
returns-in-Err-clause-done g c = λ b tree holds is _.
    let names = c.in_ok-names.names.now in
    let held = holding_over c.args.self.now.became b in
    at-parts (rmdir tree) c.args.path.now names c.in_ok-names.ensures c.if-is_empty.ensures
    ∙ rmdir-refused held tree is.stands.means is.sound (parts_of names) c.in-Err.refusal
    (c.in-Err.ensures held (c.view.ensures b holds is.sound))

pub returns-in-None-clause-done : goal.returns-in-None-clause-done
returns-in-None-clause-done g c = λ b tree holds is _.
    let names = c.in_ok-names.names.now in
    let held = holding_over c.args.self.now.became b in
    let place = c.in-Ok.place in
    at-parts (rmdir tree) c.args.path.now names c.in_ok-names.ensures c.if-is_empty.ensures
    ∙ rmdir-absent held tree is.stands.means is.sound (parts_of names) place.directory place.name.now
    (rw c.in-None.is at (c.in-Ok.ensures held (c.view.ensures b holds is.sound)))

pub returns-in-Some-default-File-clause-done : goal.returns-in-Some-default-File-clause-done
returns-in-Some-default-File-clause-done g c = λ b tree holds is _.
    let names = c.in_ok-names.names.now in
    let held = holding_over c.args.self.now.became b in
    let place = c.in-Ok.place in
    let found = c.in-Some-default-File in
    let there =
    taken-from held tree c.args.self.now.names is.sound is.stands
    (parts_of names) place.directory place.name.now
    place.link found.field-0-0 found.field-0-0 found.field-0-1 kind.File
    (c.in-Ok.ensures held (c.view.ensures b holds is.sound)) found.is refl
    (rw found.is at found.field-0-1-is) in
    at-parts (rmdir tree) c.args.path.now names c.in_ok-names.ensures c.if-is_empty.ensures
    ∙ rmdir-file held tree is.stands.means is.sound
    (parts_of names) place.directory place.name.now found.field-0-0 there.place

pub returns-then-name_count-gt0-clause-done : goal.returns-then-name_count-gt0-clause-done
returns-then-name_count-gt0-clause-done g c = λ b tree holds is _.
    let names = c.in_ok-names.names.now in
    let held = holding_over c.args.self.now.became b in
    let place = c.in-Ok.place in
    let found = c.in-Some-default-Directory in
    let there =
    taken-from held tree c.args.self.now.names is.sound is.stands
    (parts_of names) place.directory place.name.now
    place.link found.inode found.inode found.field-0-1 kind.Directory
    (c.in-Ok.ensures held (c.view.ensures b holds is.sound)) found.is refl
    (rw found.is at found.field-0-1-is) in
    let count = c.name_count.ensures held (c.view-in-Some-default-Directory.ensures b holds is.sound) in
    at-parts (rmdir tree) c.args.path.now names c.in_ok-names.ensures c.if-is_empty.ensures
    ∙ rmdir-not_empty held tree is.stands.means is.sound
    (parts_of names) place.directory place.name.now found.inode there.place
    (omega (arith, count, c.if-name_count-gt0.true))

pub remove-requires : goal.remove-requires
remove-requires g c =
    let asked = c.requires in
    let b = asked.0 in
    let is = asked.3 in
    let names = c.in_ok-names.names.now in
    let held = holding_over c.args.self.now.became b in
    let place = c.in-Ok.place in
    let found = c.in-Some-default-Directory in
    let there =
    taken-from held asked.1 c.args.self.now.names is.sound is.stands
    (parts_of names) place.directory place.name.now
    place.link found.inode found.inode found.field-0-1 kind.Directory
    (c.in-Ok.ensures held (c.view.ensures b asked.2 is.sound)) found.is
    refl
    (rw found.is at found.field-0-1-is) in
    record {
      directory = (
        b,
        there.records,
        asked.2,
        directory_inside c.self.inside.overlay c.args.self.now b place.directory there.records
            c.self.invariant c.self.view_is there.is,
      );
      counted = subst (λ (now : Current). 1 ≤ now.names) (sym c.self.view_is) there.counted;
    }

pub returns-else-name_count-gt0-clause-done : goal.returns-else-name_count-gt0-clause-done
returns-else-name_count-gt0-clause-done g c = λ b tree holds is.
    let names = c.in_ok-names.names.now in
    let held = holding_over c.args.self.now.became b in
    let place = c.in-Ok.place in
    let found = c.in-Some-default-Directory in
    let there =
    taken-from held tree c.args.self.now.names is.sound is.stands
    (parts_of names) place.directory place.name.now
    place.link found.inode found.inode found.field-0-1 kind.Directory
    (c.in-Ok.ensures held (c.view.ensures b holds is.sound)) found.is
    refl
    (rw found.is at found.field-0-1-is) in
    let count = c.name_count.ensures held (c.view-in-Some-default-Directory.ensures b holds is.sound) in
    let bare : held_count (held found.inode) ≤ 0 = omega (arith, count, c.if-name_count-gt0.false) in
    let o = c.self.inside.overlay in
    let here =
    directory_inside o c.args.self.now b place.directory there.records c.self.invariant c.self.view_is
    there.is in
    let orderly = c.remove.ensures.orderly c.self.invariant there.numbers.0 there.numbers.1 in
    let removed =
    as_lists o c.remove.new.self c.args.self.now b
    (without_inode place.directory there.records place.name.now found.inode)
    c.remove.result c.self.invariant orderly c.self.view_is
    (c.remove.ensures.removed b there.records holds here) in
    rmdired-calls c.args.self.now b tree is c.args.path.now names c.in_ok-names.ensures c.if-is_empty.ensures
    place.directory place.name.now found.inode there.records c.remove.result
    (current_of c.remove.new.self)
    there.place bare there.is.0 removed
    (on_ok_weaker c.remove.result (counts_outside c.remove.new.self b orderly)
    (c.remove.ensures.counts b there.records holds here
    (counts_inside o c.args.self.now b c.self.invariant c.self.view_is is.counts)
    there.ordinary.0 there.ordinary.1))
    (subst (λ (now : Current). OnOk c.remove.result (c.remove.new.self.names + 1 ≡ now.names)) c.self.view_is
    c.remove.ensures.names)
    c.remove.ensures.refused

pub returns-else-name_count-gt0-clause-changes : goal.returns-else-name_count-gt0-clause-changes
returns-else-name_count-gt0-clause-changes g c = λ b tree holds is.
    let names = c.in_ok-names.names.now in
    let held = holding_over c.args.self.now.became b in
    let place = c.in-Ok.place in
    let found = c.in-Some-default-Directory in
    let there =
    taken-from held tree c.args.self.now.names is.sound is.stands
    (parts_of names) place.directory place.name.now
    place.link found.inode found.inode found.field-0-1 kind.Directory
    (c.in-Ok.ensures held (c.view.ensures b holds is.sound)) found.is
    refl
    (rw found.is at found.field-0-1-is) in
    let o = c.self.inside.overlay in
    let here =
    directory_inside o c.args.self.now b place.directory there.records c.self.invariant c.self.view_is
    there.is in
    let orderly = c.remove.ensures.orderly c.self.invariant there.numbers.0 there.numbers.1 in
    let removed =
    as_lists o c.remove.new.self c.args.self.now b
    (without_inode place.directory there.records place.name.now found.inode)
    c.remove.result c.self.invariant orderly c.self.view_is
    (c.remove.ensures.removed b there.records holds here) in
    removed-changes c.args.self.now b tree is c.args.path.now names c.in_ok-names.ensures
    c.if-is_empty.ensures
    kind.Directory place.directory place.name.now found.inode there.records
    c.remove.result
    (current_of c.remove.new.self)
    there.place there.is.0 removed

pub invariant_of-self : goal.invariant_of-self
invariant_of-self g c =
    let asked = c.requires in
    let b = asked.0 in
    let is = asked.3 in
    let names = c.in_ok-names.names.now in
    let held = holding_over c.args.self.now.became b in
    let place = c.in-Ok.place in
    let found = c.in-Some-default-Directory in
    let there =
    taken-from held asked.1 c.args.self.now.names is.sound is.stands
    (parts_of names) place.directory place.name.now
    place.link found.inode found.inode found.field-0-1 kind.Directory
    (c.in-Ok.ensures held (c.view.ensures b asked.2 is.sound)) found.is
    refl
    (rw found.is at found.field-0-1-is) in
    c.remove.ensures.orderly c.self.invariant there.numbers.0 there.numbers.1
