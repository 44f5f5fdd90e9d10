use Rattle.std.proofs.Common.{List, true, Some, refl, sym, ap, subst}
use Rattle.std.specs.Option.{is_some}
use Rattle.nl_dirs.specs.declared.record.Record.{Record}
use Rattle.nl_tree.specs.declared.overlay.Slot.{Slot}
use Rattle.nl_tree.specs.Held.{Listed}
use Rattle.nl_tree.specs.Overlays.{IsListedWith}
use Rattle.nl_tree.specs.Records.{with_record}
use Rattle.nl_tree.specs.Facts.Places.{listed_over, one_slot, written_over}
use Rattle.nl_tree.proofs.WrittenSlots.{places_stay, written_orderly}
use Rattle.nl_tree.proofs.overlay.Overlay.link.Goals as goal

pub returns-in-Some-clause-shown : goal.returns-in-Some-clause-shown
returns-in-Some-clause-shown c = λ all has b i.
    let slot = c.in-Some.slot.now in
    let written : Slot = record { live = true; what = c.put.new.self } in
    let records : List Record =
    with_record (record { name = c.args.name.now; inode = c.args.link.0; kind = c.args.link.1 }) all in
    let named : IsListedWith slot.what all c.args.name.now =
    subst (λ (s : Slot). IsListedWith s.what all c.args.name.now)
    (sym (one_slot _ slot has.0 c.in-Some.ensures.value has.1)) has.2 in
    written_over c.args.self.now.changed (c.get_mut.follows.lender written) c.args.dir written
    (Some (Listed records))
    (c.get_mut.follows.holds written) (ap is_some has.1)
    (λ base. listed_over c.put.new.self records base (c.put.ensures.listed all named)) b i

pub returns-in-Some-clause-orderly : goal.returns-in-Some-clause-orderly
returns-in-Some-clause-orderly c =
    let slot = c.in-Some.slot.now in
    let written : Slot = record { live = true; what = c.put.new.self } in
    written_orderly c.args.self.now.changed (c.get_mut.follows.lender written) c.args.dir slot written
    (c.get_mut.follows.holds written) c.in-Some.ensures.value c.args.self.now
    c.recounted-self.result c.weight-was.result c.weight-now.result refl c.put.ensures.ordered
    c.recounted-self.ensures c.weight-was.ensures c.weight-now.ensures

pub returns-in-Some-clause-rest : goal.returns-in-Some-clause-rest
returns-in-Some-clause-rest c = record { freed = refl; mark = refl; names = refl }

pub returns-in-Some-clause-places : goal.returns-in-Some-clause-places
returns-in-Some-clause-places c =
    let slot = c.in-Some.slot.now in
    let written : Slot = record { live = true; what = c.put.new.self } in
    places_stay c.args.self.now.changed (c.get_mut.follows.lender written) c.args.dir slot written
    (c.get_mut.follows.holds written) c.in-Some.ensures.value
