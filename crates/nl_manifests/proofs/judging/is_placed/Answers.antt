use Rattle.std.proofs.Common.{◌≡◌, IfOk, Option, ap, subst, sym, ◌∙◌}
use Rattle.nl_types.specs.Plain.Paths.{Name, Path}
use Rattle.nl_manifests.specs.Sealed.{is_placed, stands_below}
use Rattle.nl_manifests.proofs.EntryParts.{parted_last}
use Rattle.nl_manifests.proofs.judging.is_placed.Goals as goal

pub returns-in-len1-up : goal.returns-in-len1-up
returns-in-len1-up c =
    let path = c.args.path.now in
    let tree = c.args.tree.now.all.now in
    let entry = c.args.entry.now in
    let last = c.index-path-last.result in
    let ends = parted_last path last c.in-len1-up.len_at_least in
    let name : c.as_slice.result.now ≡ _ = c.as_slice.ensures ∙ c.index-path-last.is in
    subst (λ x. IfOk c.stands_below.result (λ is. is ≡ x))
    ((λ i. stands_below (c.found-above.ensures i) (name i) entry)
    ∙ sym (ap (λ (p : Option (Path × Name)). is_placed tree p entry) ends)) c.stands_below.ensures
