use Rattle.std.proofs.Common.{◌+◌, Ok, ap, ◌∙◌}
use Rattle.std.proofs.lemmas.Result.{err_from_is_err_and}
use Rattle.nl_types.specs.declared.reply.Answer.TheVariants as answer
use Rattle.nl_types.specs.Plain.Calls.{create}
use Rattle.nl_types.specs.Plain.Paths.{Path}
use Rattle.nl_tree.specs.Became.{Current, holding_over}
use Rattle.nl_tree.specs.Held.{Listed, new_object}
use Rattle.nl_tree.specs.Overlays.{current_of}
use Rattle.nl_tree.specs.Private.PathParts.{parts_of}
use Rattle.nl_tree.proofs.CallsJudged.{create-exists, create-not_made, create-refused}
use Rattle.nl_tree.proofs.CallsStand.{created-leads, leads-at}
use Rattle.nl_tree.proofs.OneHolding.{counts_inside, counts_outside, created_outside, directory_inside, refused_outside}
use Rattle.nl_tree.proofs.PlacesFound.{at-parts, last-is_name, place-absent, place-listed, place-present, spells-parts}
use Rattle.nl_tree.proofs.RenamesMake.{directory-number}
use Rattle.nl_tree.proofs.current.CurrentTree.create.Goals as goal

pub returns-in-Err-clause-done : goal.returns-in-Err-clause-done
returns-in-Err-clause-done g c = λ b tree holds is _.
    let object = new_object c.args.kind in
    let names = c.in_ok-names.names.now in
    let held = holding_over c.args.self.now.became b in
    at-parts (create tree object) c.args.path.now names c.in_ok-names.ensures c.if-is_empty.ensures
    ∙ create-refused held tree is.stands.means object (parts_of names) c.in-Err.refusal
    (c.in-Err.ensures held (c.view.ensures b holds is.sound))

pub returns-then-is_some-clause-done : goal.returns-then-is_some-clause-done
returns-then-is_some-clause-done g c = λ b tree holds is _.
    let object = new_object c.args.kind in
    let names = c.in_ok-names.names.now in
    let held = holding_over c.args.self.now.became b in
    let place = c.in-Ok.place in
    let there = place-present held (parts_of names) place.directory place.name.now place.link
    (c.in-Ok.ensures held (c.view.ensures b holds is.sound)) c.if-is_some.ensures in
    at-parts (create tree object) c.args.path.now names c.in_ok-names.ensures c.if-is_empty.ensures
    ∙ create-exists held tree is.stands.means object
    (parts_of names) place.directory place.name.now there.0 there.1

pub create-requires : goal.create-requires
create-requires g c =
    let asked = c.requires in
    let is = asked.3 in
    let place = c.in-Ok.place in
    let listed =
    place-listed (holding_over c.args.self.now.became asked.0) asked.1 is.sound is.stands.means
    (parts_of c.in_ok-names.names.now)
    place.directory place.name.now place.link
    (c.in-Ok.ensures (holding_over c.args.self.now.became asked.0)
    (c.view.ensures asked.0 asked.2 is.sound)) in (
      asked.0,
      listed.0,
      asked.2,
      directory_inside c.self.inside.overlay c.args.self.now asked.0 place.directory listed.0 c.self.invariant
          c.self.view_is listed.1,
      counts_inside c.self.inside.overlay c.args.self.now asked.0 c.self.invariant c.self.view_is is.counts,
    )

pub returns-in_err-create-clause-done : goal.returns-in_err-create-clause-done
returns-in_err-create-clause-done g c = λ b tree holds is.
    let given =
    err_from_is_err_and c.from_residual-in_err-create.result c.from_residual-in_err-create.ensures.1 in
    let object = new_object c.args.kind in
    let names = c.in_ok-names.names.now in
    let held = holding_over c.args.self.now.became b in
    let place = c.in-Ok.place in
    let free = place-absent held (parts_of names) place.directory place.name.now place.link
    (c.in-Ok.ensures held (c.view.ensures b holds is.sound)) c.if-is_some.ensures in
    rw (given.1, given.2) (λ other.
    at-parts (create tree object) c.args.path.now names c.in_ok-names.ensures c.if-is_empty.ensures
    ∙ create-not_made held tree is.stands.means object
    (parts_of names) place.directory place.name.now c.args.self.now.names
    c.in_err-create.field-0.0 free is.stands.count
    (refused_outside c.self.inside.overlay c.args.self.now b c.in_err-create.field-0.0 c.self.invariant
    c.self.view_is
    (c.in_err-create.ensures.refused b holds
    (counts_inside c.self.inside.overlay c.args.self.now b c.self.invariant c.self.view_is is.counts)))
    other)

pub returns-clause-done : goal.returns-clause-done
returns-clause-done g c = λ b tree holds is.
    let object = new_object c.args.kind in
    let names = c.in_ok-names.names.now in
    let held = holding_over c.args.self.now.became b in
    let place = c.in-Ok.place in
    let free = place-absent held (parts_of names) place.directory place.name.now place.link
    (c.in-Ok.ensures held (c.view.ensures b holds is.sound)) c.if-is_some.ensures in
    let listed =
    place-listed held tree is.sound is.stands.means
    (parts_of names) place.directory place.name.now _ free in
    let named = last-is_name c.args.path.now free.dir place.name.now
    (spells-parts c.args.path.now names c.in_ok-names.ensures c.if-is_empty.ensures
    ∙ ap (λ (p : Path). Ok p) free.is_path) in
    let o = c.self.inside.overlay in
    let there =
    directory_inside o c.args.self.now b place.directory listed.0 c.self.invariant c.self.view_is
    listed.1 in
    let counts = counts_inside o c.args.self.now b c.self.invariant c.self.view_is is.counts in
    let orderly =
    c.create.ensures.orderly c.self.invariant
    (is.sound.inode_numbers place.directory (Listed listed.0) listed.1.0) in
    leads-at (create tree object) c.args.path.now names answer.Done (current_of c.create.new.self) b
    c.in_ok-names.ensures c.if-is_empty.ensures
    (created-leads c.args.self.now b tree is c.args.kind
    (parts_of names) place.directory place.name.now listed.0
    c.in_ok-create.field-0 (current_of c.create.new.self) free named listed.1.0
    (created_outside o c.create.new.self c.args.self.now b place.directory listed.0 place.name.now c.args.kind
    c.in_ok-create.field-0 c.self.invariant orderly c.self.view_is
    (c.in_ok-create.ensures.created b listed.0 holds there counts))
    (counts_outside c.create.new.self b orderly (c.in_ok-create.ensures.counts b listed.0 holds there counts))
    (c.in_ok-create.ensures.names ∙ ap (λ (now : Current). now.names + 1) c.self.view_is)
    c.in_ok-create.ensures.limit)

pub returns-clause-changes : goal.returns-clause-changes
returns-clause-changes g c = λ b tree holds is.
    let names = c.in_ok-names.names.now in
    let held = holding_over c.args.self.now.became b in
    let place = c.in-Ok.place in
    let free = place-absent held (parts_of names) place.directory place.name.now place.link
    (c.in-Ok.ensures held (c.view.ensures b holds is.sound)) c.if-is_some.ensures in
    let listed =
    place-listed held tree is.sound is.stands.means
    (parts_of names) place.directory place.name.now _ free in
    let o = c.self.inside.overlay in
    let there =
    directory_inside o c.args.self.now b place.directory listed.0 c.self.invariant c.self.view_is
    listed.1 in
    let counts = counts_inside o c.args.self.now b c.self.invariant c.self.view_is is.counts in
    let orderly =
    c.create.ensures.orderly c.self.invariant
    (is.sound.inode_numbers place.directory (Listed listed.0) listed.1.0) in
    record {
      names = parts_of names;
      is_path = spells-parts c.args.path.now names c.in_ok-names.ensures c.if-is_empty.ensures;
      directory = place.directory;
      name = place.name.now;
      place = free;
      records = listed.0;
      here = listed.1.0;
      inode = c.in_ok-create.field-0;
      created =
          created_outside o c.create.new.self c.args.self.now b place.directory listed.0 place.name.now
          c.args.kind
          c.in_ok-create.field-0 c.self.invariant orderly c.self.view_is
          (c.in_ok-create.ensures.created b listed.0 holds there counts);
    }

pub invariant_of-self : goal.invariant_of-self
invariant_of-self g c =
    let asked = c.requires in
    let held = holding_over c.args.self.now.became asked.0 in
    let place = c.in-Ok.place in
    c.create.ensures.orderly c.self.invariant
    (directory-number held asked.1 asked.3.sound asked.3.stands.means (parts_of c.in_ok-names.names.now)
    place.directory place.name.now place.link
    (c.in-Ok.ensures held (c.view.ensures asked.0 asked.2 asked.3.sound)))

pub invariant_of-self-2 : goal.invariant_of-self-2
invariant_of-self-2 g c =
    let asked = c.requires in
    let held = holding_over c.args.self.now.became asked.0 in
    let place = c.in-Ok.place in
    c.create.ensures.orderly c.self.invariant
    (directory-number held asked.1 asked.3.sound asked.3.stands.means (parts_of c.in_ok-names.names.now)
    place.directory place.name.now place.link
    (c.in-Ok.ensures held (c.view.ensures asked.0 asked.2 asked.3.sound)))
