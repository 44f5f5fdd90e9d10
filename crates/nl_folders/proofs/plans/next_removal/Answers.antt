use Rattle.std.proofs.Common.{◌≡◌, ◌++◌, ◌∷◌, [], List, ap, refl, ◌∙◌}
use Rattle.nl_types.specs.declared.event.Change.{Change}
use Rattle.nl_types.specs.Plain.Paths.{Path}
use Rattle.nl_folders.proofs.Handing.{removal_handed}
use Rattle.nl_folders.proofs.ReadEntries.{entry_read}
use Rattle.nl_folders.specs.Private.Stages.{removal_of}
use Rattle.nl_folders.proofs.plans.next_removal.Goals as goal

pub returns : goal.returns
returns c =
    let s = c.args.sides.now in
    let place = c.in-Some.place in
    let e = c.index-present-place.result in
    let call : c.in_ok-removal.field-0 ≡ removal_of e.0 e.1 =
    c.in_ok-removal.ensures ∙ ap (λ (path : Path). removal_of path e.1) c.as_slice.ensures in
    let calls : c.push.new.self ≡ removal_of e.0 e.1 ∷ [] =
    c.in_ok-push.ensures.ok
    ∙ ap (λ (x : List Change). x ++ c.in_ok-removal.field-0 ∷ []) c.new-calls.ensures
    ∙ ap (λ (x : Change). x ∷ []) call in
    removal_handed s c.args.left place e _ c.present.ensures.told c.requires c.in-Some.ensures.found
    (entry_read s.present c.present.result.now place.index e c.present.ensures.value c.index-present-place.is)
    calls refl
