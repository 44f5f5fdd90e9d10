use Rattle.std.proofs.Common.{◌≡◌, ◌+◌, ◌<◌, ◌∷◌, [], ◌++◌, List, length, map, take, arith, ap, sym, ◌∙◌}
use Rattle.std.proofs.lemmas.List.{map-append, take_more}
use Rattle.nl_layout.specs.declared.tag.Tag.{Tag}
use Rattle.nl_vstore.specs.Content.{Payload, payload_tag}
use Rattle.nl_segwriter.proofs.staging.tags_of.Goals as goal

pub loop-tag-preserved : goal.loop-tag-preserved
loop-tag-preserved c =
    let k = c.loop-tag.tag-index in
    let items : List Payload = c.args.items.now in
    let item : Payload = c.loop-tag-item.result in
    let within : k < length items = omega arith in
    let more : take (k + 1) items ≡ take k items ++ item ∷ [] =
    take_more items k item within
    ∙ ap (λ (x : Payload). take k items ++ x ∷ []) (sym c.loop-tag-item.is) in
    c.in_ok-push.ensures.items
    ∙ (ap (λ (tags : List Tag). tags ++ payload_tag item ∷ []) c.loop-tag.invariant
    ∙ sym (ap (map payload_tag) more ∙ map-append payload_tag (take k items) (item ∷ [])))
