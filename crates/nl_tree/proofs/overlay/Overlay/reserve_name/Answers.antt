use Rattle.std.proofs.Common.{◌≡◌, ℕ, List, Option, Some, None, refl, sym, ap, subst, ◌∙◌}
use Rattle.std.specs.Option.{is_some}
use Rattle.std.specs.Ordering.{nat_cmp}
use Rattle.std.specs.BTreeMap as map
use Rattle.std.proofs.lemmas.Result.{on_ok_weaker}
use Rattle.nl_tree.specs.declared.overlay.Slot.{Slot}
use Rattle.nl_tree.specs.Became.{Became, Current}
use Rattle.nl_tree.specs.Overlays.{HasListing, HasName, HasSlot, IsListed, IsListedWith, IsOrderly, current_of, over_if_slot, slot_shows}
use Rattle.nl_tree.specs.Shown.{pair, shown_entries}
use Rattle.nl_tree.specs.Facts.Places.{kept_change, one_slot, slot_still}
use Rattle.nl_tree.proofs.WrittenSlots.{places_stay, written_orderly, written_still}
use Rattle.nl_tree.proofs.overlay.Overlay.reserve_name.Goals as goal

pub returns-in-Some-clause-same : goal.returns-in-Some-clause-same
returns-in-Some-clause-same c =
    let slot = c.in-Some.slot.now in
    let written : Slot = record { live = slot.live; what = c.reserve_name-outcome.new.self } in
    ap {B = Current} (λ (es : List (ℕ × Became)). record (current_of c.args.self.now) { became = es })
    (ap (λ es. shown_entries pair slot_shows es) (c.get_mut.follows.holds written).0
    ∙ kept_change c.args.self.now.changed.entries _ slot c.reserve_name-outcome.new.self
    c.in-Some.ensures.value c.reserve_name-outcome.ensures.same)

pub returns-in-Some-clause-place : goal.returns-in-Some-clause-place
returns-in-Some-clause-place c = λ all has.
    let slot = c.in-Some.slot.now in
    let written : Slot = record { live = slot.live; what = c.reserve_name-outcome.new.self } in
    let listed : IsListed slot.what all =
    subst (λ (s : Slot). IsListed s.what all)
    (sym (one_slot _ slot has.0 c.in-Some.ensures.value has.1)) has.2 in
    on_ok_weaker c.reserve_name-outcome.result
    (λ named. (written, ((c.get_mut.follows.holds written).3 (ap is_some has.1)).1, named))
    (c.reserve_name-outcome.ensures.place all listed)

pub returns-in-Some-clause-listings : goal.returns-in-Some-clause-listings
returns-in-Some-clause-listings c = λ i all has.
    let slot = c.in-Some.slot.now in
    let written : Slot = record { live = slot.live; what = c.reserve_name-outcome.new.self } in
    slot_still c.args.self.now.changed
    (c.get_mut.follows.lender written) c.args.dir slot c.reserve_name-outcome.new.self
    (λ what. IsListed what all) (c.get_mut.follows.holds written) c.in-Some.ensures.value
    (c.reserve_name-outcome.ensures.listed all) i has

pub returns-in-Some-clause-names : goal.returns-in-Some-clause-names
returns-in-Some-clause-names c = λ i all other has.
    let slot = c.in-Some.slot.now in
    let written : Slot = record { live = slot.live; what = c.reserve_name-outcome.new.self } in
    slot_still c.args.self.now.changed
    (c.get_mut.follows.lender written) c.args.dir slot c.reserve_name-outcome.new.self
    (λ what. IsListedWith what all other) (c.get_mut.follows.holds written) c.in-Some.ensures.value
    (c.reserve_name-outcome.ensures.names all other) i has

pub returns-in-Some-clause-orderly : goal.returns-in-Some-clause-orderly
returns-in-Some-clause-orderly c =
    let slot = c.in-Some.slot.now in
    let written : Slot = record { live = slot.live; what = c.reserve_name-outcome.new.self } in
    written_orderly c.args.self.now.changed (c.get_mut.follows.lender written) c.args.dir slot written
    (c.get_mut.follows.holds written) c.in-Some.ensures.value c.args.self.now
    c.recounted-self.result c.weight-was.result c.weight-now.result refl c.reserve_name-outcome.ensures.ordered
    c.recounted-self.ensures c.weight-was.ensures c.weight-now.ensures

pub returns-in-Some-clause-rest : goal.returns-in-Some-clause-rest
returns-in-Some-clause-rest c = record { freed = refl; mark = refl; names = refl }

pub returns-in-Some-clause-still : goal.returns-in-Some-clause-still
returns-in-Some-clause-still c =
    let slot = c.in-Some.slot.now in
    let written : Slot = record { live = slot.live; what = c.reserve_name-outcome.new.self } in
    written_still c.args.self.now.changed
    (c.get_mut.follows.lender written) c.args.dir slot c.reserve_name-outcome.new.self
    (c.get_mut.follows.holds written) c.in-Some.ensures.value c.reserve_name-outcome.ensures.over

pub returns-in-Some-clause-refused : goal.returns-in-Some-clause-refused
returns-in-Some-clause-refused c = c.reserve_name-outcome.ensures.refused

pub returns-in-None-clause-orderly : goal.returns-in-None-clause-orderly
returns-in-None-clause-orderly c = λ is.
    subst (λ changed. IsOrderly (record c.args.self.now { changed = changed }))
    (sym c.get_mut.follows.holds-at-none) is

pub returns-in-None-clause-same : goal.returns-in-None-clause-same
returns-in-None-clause-same c =
    ap {B = Current}
    (λ changed. current_of (record c.args.self.now { changed = changed })) c.get_mut.follows.holds-at-none

pub returns-in-None-clause-place : goal.returns-in-None-clause-place
returns-in-None-clause-place c = λ all has.
    let clash : ◌≡◌ {A = Option Slot} None (Some has.0) = c.in-None.ensures.value ∙ has.1 in cc

pub returns-in-Some-clause-places : goal.returns-in-Some-clause-places
returns-in-Some-clause-places c =
    let slot = c.in-Some.slot.now in
    let written : Slot = record { live = slot.live; what = c.reserve_name-outcome.new.self } in
    places_stay c.args.self.now.changed (c.get_mut.follows.lender written) c.args.dir slot written
    (c.get_mut.follows.holds written) c.in-Some.ensures.value

pub returns-in-None-clause-rest : goal.returns-in-None-clause-rest
returns-in-None-clause-rest c = record { freed = refl; mark = refl; names = refl }

pub returns-in-None-clause-still : goal.returns-in-None-clause-still
returns-in-None-clause-still c = λ b i.
    ap (λ changed. over_if_slot (map.get nat_cmp changed i) (b i)) c.get_mut.follows.holds-at-none

pub returns-in-None-clause-refused : goal.returns-in-None-clause-refused
returns-in-None-clause-refused c = tt

pub returns-in-None-clause-listings : goal.returns-in-None-clause-listings
returns-in-None-clause-listings c = λ i all has.
    subst (λ changed. HasListing (record c.args.self.now { changed = changed }) i all)
    (sym c.get_mut.follows.holds-at-none) has

pub returns-in-None-clause-names : goal.returns-in-None-clause-names
returns-in-None-clause-names c = λ i all other has.
    subst (λ changed. HasName (record c.args.self.now { changed = changed }) i all other)
    (sym c.get_mut.follows.holds-at-none) has

pub returns-in-None-clause-places : goal.returns-in-None-clause-places
returns-in-None-clause-places c = λ i has.
    subst (λ changed. HasSlot (record c.args.self.now { changed = changed }) i)
    (sym c.get_mut.follows.holds-at-none) has
