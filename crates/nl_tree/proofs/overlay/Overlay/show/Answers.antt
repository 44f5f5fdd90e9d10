use Rattle.std.proofs.Common.{true, refl}
use Rattle.nl_tree.specs.declared.overlay.Slot.{Slot}
use Rattle.nl_tree.proofs.WrittenSlots.{places_stay, written_orderly, written_shown}
use Rattle.nl_tree.proofs.overlay.Overlay.show.Goals as goal

pub returns-in-Some-clause-orderly : goal.returns-in-Some-clause-orderly
returns-in-Some-clause-orderly c = λ is ordered.
    let written : Slot = record { live = true; what = c.args.what } in
    written_orderly c.args.self.now.changed (c.get_mut.follows.lender written) c.args.inode
    c.in-Some.slot.now written (c.get_mut.follows.holds written) c.in-Some.ensures.value c.args.self.now
    c.recounted-self.result c.weight-was.result c.weight-now.result refl (λ _. ordered) c.recounted-self.ensures c.weight-was.ensures
    c.weight-now.ensures is

pub returns-in-Some-clause-shown : goal.returns-in-Some-clause-shown
returns-in-Some-clause-shown c = λ b i.
    let written : Slot = record { live = true; what = c.args.what } in
    written_shown c.args.self.now.changed (c.get_mut.follows.lender written) c.args.inode c.args.what
    (c.get_mut.follows.holds written) c.requires b i

pub returns-in-Some-clause-places : goal.returns-in-Some-clause-places
returns-in-Some-clause-places c =
    let written : Slot = record { live = true; what = c.args.what } in
    places_stay c.args.self.now.changed (c.get_mut.follows.lender written) c.args.inode c.in-Some.slot.now
    written (c.get_mut.follows.holds written) c.in-Some.ensures.value
