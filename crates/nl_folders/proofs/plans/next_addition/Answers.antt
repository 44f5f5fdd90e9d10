use Rattle.std.proofs.Common.{option_copied, refl, sym, subst}
use Rattle.nl_types.specs.Plain.Paths.{Path}
use Rattle.nl_folders.proofs.Handing.{addition_handed}
use Rattle.nl_folders.proofs.ReadEntries.{entry_read, found_there}
use Rattle.nl_folders.specs.Private.Rewriting.{PutsObject}
use Rattle.nl_folders.proofs.plans.next_addition.Goals as goal

pub returns : goal.returns
returns c =
    let s = c.args.sides.now in
    let place = c.in-Some.place in
    let f = c.index-wanted-place.result in
    let found = option_copied c.find_near-found.result.object in
    addition_handed s c.args.done place f found _ c.wanted.ensures.told c.in-Some.ensures.found
    (entry_read s.wanted c.wanted.result.now place.index f c.wanted.ensures.value c.index-wanted-place.is)
    (λ sorted.
    sym (found_there s.present c.present.result.now f.0 c.as_slice.result.now found c.present.ensures.value
    c.as_slice.ensures c.find_near-found.ensures sorted))
    (subst (λ (path : Path). PutsObject path found f.1 c.in_ok-calls.calls) c.as_slice-2.ensures
    c.in_ok-calls.ensures)
    refl
