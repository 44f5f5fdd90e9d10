use Rattle.std.proofs.Common.{◌≡◌, ◌+◌, ◌≤◌, None, OnOk, ap, subst, sym, ◌∙◌}
use Rattle.std.proofs.lemmas.Result.{on_ok_weaker}
use Rattle.nl_types.specs.Plain.Calls.{rename}
use Rattle.nl_tree.specs.Became.{Current, holding_over}
use Rattle.nl_tree.specs.Held.{Holding, IsInodeNumber}
use Rattle.nl_tree.specs.Private.Moving.{with_moved}
use Rattle.nl_tree.specs.Overlays.{current_of}
use Rattle.nl_tree.specs.Steps.{with_held}
use Rattle.nl_tree.proofs.OneHolding.{as_lists, counts_inside, counts_outside}
use Rattle.nl_tree.proofs.RenamesMake.{calls-as, directories_inside, link-ordinary, move-directories, move-leads, move-numbers, move_onto-leads, ordinary-number, some_names}
use Rattle.nl_tree.proofs.current.CurrentTree.move_to_place.Goals as goal

pub rename-requires : goal.rename-requires
rename-requires g c =
    let asked = c.requires.found in
    let found = c.args.found.now in
    let held : Holding = holding_over c.args.self.now.became asked.0 in
    let both =
    move-directories held asked.1 asked.5.sound asked.5.stands.means asked.2 asked.3 found asked.6 in
    let inside =
    directories_inside c.self.inside.overlay c.args.self.now asked.0 found both.0 both.1 c.self.invariant
    c.self.view_is both.2 in
    (asked.0, both.0, both.1, asked.4, inside)

pub rename_onto-requires : goal.rename_onto-requires
rename_onto-requires g c =
    let asked = c.requires.found in
    let found = c.args.found.now in
    let held : Holding = holding_over c.args.self.now.became asked.0 in
    let both =
    move-directories held asked.1 asked.5.sound asked.5.stands.means asked.2 asked.3 found asked.6 in
    let inside =
    directories_inside c.self.inside.overlay c.args.self.now asked.0 found both.0 both.1 c.self.invariant
    c.self.view_is both.2 in
    let some =
    some_names held asked.1 c.args.self.now.names asked.5.stands asked.2 found.directory found.name.now
    found.link asked.6.place both.0 both.2.0 in
    record {
      directories = (asked.0, both.0, both.1, asked.4, inside);
      counted = subst (λ (now : Current). 1 ≤ now.names) (sym c.self.view_is) some;
    }

pub returns-in-None-clause-moved : goal.returns-in-None-clause-moved
returns-in-None-clause-moved g c = λ b all others holds are.
    let asked = c.requires.found in
    let found = c.args.found.now in
    let held : Holding = holding_over c.args.self.now.became asked.0 in
    let numbers =
    move-numbers held asked.1 asked.5.sound asked.5.stands.means asked.2 asked.3 found asked.6 in
    let o = c.self.inside.overlay in
    let inside =
    directories_inside o c.args.self.now b found all others c.self.invariant c.self.view_is are in
    let orderly = c.rename.ensures.orderly c.self.invariant
    numbers.0 numbers.1 in
    rw c.in-None.is (as_lists o c.rename.new.self c.args.self.now b
    (with_moved found all others) c.rename.result c.self.invariant orderly c.self.view_is
    (c.rename.ensures.moved b all others holds inside))

pub returns-in-Some-clause-moved : goal.returns-in-Some-clause-moved
returns-in-Some-clause-moved g c = λ b all others holds are.
    let asked = c.requires.found in
    let found = c.args.found.now in
    let held : Holding = holding_over c.args.self.now.became asked.0 in
    let target =
    link-ordinary held asked.1 asked.5.sound asked.5.stands.means asked.3 found.target.directory
    found.target.name.now
    (c.in-Some.replaced, c.in-Some.field-0-1) (rw c.in-Some.is at asked.6.target_place) in
    let numbers =
    move-numbers held asked.1 asked.5.sound asked.5.stands.means asked.2 asked.3 found asked.6 in
    let o = c.self.inside.overlay in
    let inside =
    directories_inside o c.args.self.now b found all others c.self.invariant c.self.view_is are in
    let orderly = c.rename_onto.ensures.orderly c.self.invariant
    numbers.0 numbers.1
    target.number in
    rw c.in-Some.is (as_lists o c.rename_onto.new.self c.args.self.now b
    (λ held. with_held c.in-Some.replaced None (with_moved found all others held)) c.rename_onto.result
    c.self.invariant orderly c.self.view_is
    (c.rename_onto.ensures.moved b all others holds inside))

pub returns-in-None-clause-done : goal.returns-in-None-clause-done
returns-in-None-clause-done g c = λ b tree from to holds over move.
    let found = c.args.found.now in
    let held : Holding = holding_over c.args.self.now.became b in
    let both = move-directories held tree over.sound over.stands.means from to found move in
    let numbers = move-numbers held tree over.sound over.stands.means from to found move in
    let o = c.self.inside.overlay in
    let inside =
    directories_inside o c.args.self.now b found both.0 both.1 c.self.invariant c.self.view_is both.2 in
    let orderly = c.rename.ensures.orderly c.self.invariant
    numbers.0 numbers.1 in
    let counts = on_ok_weaker c.rename.result (counts_outside c.rename.new.self b orderly)
    (c.rename.ensures.counts b both.0 both.1 holds inside
    (counts_inside o c.args.self.now b c.self.invariant c.self.view_is over.counts)) in
    calls-as c.rename.result (current_of c.rename.new.self) b (rename tree from to)
    (as_lists o c.rename.new.self c.args.self.now b
    (with_moved found both.0 both.1) c.rename.result c.self.invariant orderly c.self.view_is
    (c.rename.ensures.moved b both.0 both.1 holds inside))
    counts counts c.rename.ensures.refused
    (λ moved counts _.
    move-leads c.args.self.now
    (current_of c.rename.new.self) b tree over from to found.directory found.name.now found.link
    found.target.directory found.target.name.now c.requires.name both.0 both.1 both.2.0 both.2.1 counts
    (rw c.in-None.is at move) moved
    (c.rename.ensures.rest.names ∙ ap (λ (now : Current). now.names) c.self.view_is))

pub returns-in-Some-clause-done : goal.returns-in-Some-clause-done
returns-in-Some-clause-done g c = λ b tree from to holds over move.
    let found = c.args.found.now in
    let held : Holding = holding_over c.args.self.now.became b in
    let both = move-directories held tree over.sound over.stands.means from to found move in
    let numbers = move-numbers held tree over.sound over.stands.means from to found move in
    let onto = rw c.in-Some.is at move in
    let target =
    link-ordinary held tree over.sound over.stands.means to found.target.directory found.target.name.now
    (c.in-Some.replaced, c.in-Some.field-0-1) onto.target_place in
    let number = ordinary-number held found.target.directory c.in-Some.replaced target in
    let o = c.self.inside.overlay in
    let inside =
    directories_inside o c.args.self.now b found both.0 both.1 c.self.invariant c.self.view_is both.2 in
    let orderly = c.rename_onto.ensures.orderly c.self.invariant
    numbers.0 numbers.1
    target.number in
    calls-as c.rename_onto.result (current_of c.rename_onto.new.self) b (rename tree from to)
    (as_lists o c.rename_onto.new.self c.args.self.now b
    (λ held. with_held c.in-Some.replaced None (with_moved found both.0 both.1 held)) c.rename_onto.result
    c.self.invariant orderly c.self.view_is (c.rename_onto.ensures.moved b both.0 both.1 holds inside))
    (on_ok_weaker c.rename_onto.result (counts_outside c.rename_onto.new.self b orderly)
    ((c.rename_onto.ensures.counts b both.0 both.1 holds inside
    (counts_inside o c.args.self.now b c.self.invariant c.self.view_is over.counts)) number.0 number.1))
    (subst (λ (now : Current). OnOk c.rename_onto.result (c.rename_onto.new.self.names + 1 ≡ now.names))
    c.self.view_is c.rename_onto.ensures.names)
    c.rename_onto.ensures.refused
    (λ moved counts names.
    move_onto-leads c.args.self.now
    (current_of c.rename_onto.new.self) b tree over from to found.directory found.name.now found.link
    found.target.directory found.target.name.now c.requires.name both.0 both.1 both.2.0 both.2.1 counts
    (c.in-Some.replaced, c.in-Some.field-0-1) onto moved names)

pub invariant_of-self : goal.invariant_of-self
invariant_of-self g c =
    let asked = c.requires.found in
    let found = c.args.found.now in
    let held : Holding = holding_over c.args.self.now.became asked.0 in
    let numbers =
    move-numbers held asked.1 asked.5.sound asked.5.stands.means asked.2 asked.3 found asked.6 in
    c.rename.ensures.orderly c.self.invariant
    numbers.0 numbers.1

pub invariant_of-self-in-Some : goal.invariant_of-self-in-Some
invariant_of-self-in-Some g c =
    let asked = c.requires.found in
    let found = c.args.found.now in
    let held : Holding = holding_over c.args.self.now.became asked.0 in
    let target =
    link-ordinary held asked.1 asked.5.sound asked.5.stands.means asked.3 found.target.directory
    found.target.name.now
    (c.in-Some.replaced, c.in-Some.field-0-1) (rw c.in-Some.is at asked.6.target_place) in
    let numbers =
    move-numbers held asked.1 asked.5.sound asked.5.stands.means asked.2 asked.3 found asked.6 in
    c.rename_onto.ensures.orderly c.self.invariant
    numbers.0 numbers.1
    target.number
