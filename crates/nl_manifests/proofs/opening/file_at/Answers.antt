use Rattle.std.proofs.Common.{◌≡◌, IfOk, None, Option, Some, ap, subst, sym, ◌∙◌}
use Rattle.std.specs.Option.{option_copied}
use Rattle.nl_types.specs.declared.reply.Object.TheVariants.{File}
use Rattle.nl_manifests.specs.declared.host_tree.HostEntry.{HostEntry}
use Rattle.nl_manifests.specs.HostTrees.{last_name, parted, shown_in}
use Rattle.nl_manifests.specs.Private.Opening.{above_in}
use Rattle.nl_manifests.proofs.EntryParts.{parted_last}
use Rattle.nl_manifests.proofs.opening.file_at.Goals as goal

pub returns-in-len1-up : goal.returns-in-len1-up
returns-in-len1-up c =
    let path = c.args.path.now in
    let all = c.args.all.now.all.now in
    let last = c.index-path-last.result in
    let bytes = c.args.bytes.now in
    let ends = parted_last path last c.in-len1-up.len_at_least in
    let above : option_copied c.found-above.result ≡ above_in all (parted path) =
    c.found-above.ensures ∙ sym (ap (above_in all) ends) in
    let name : c.as_slice-in-len1-up.result.now ≡ last_name (parted path) =
    c.as_slice-in-len1-up.ensures ∙ c.index-path-last.is ∙ sym (ap last_name ends) in
    subst (λ (x : Option HostEntry). IfOk c.file_under-in-len1-up.result (λ entry. entry ≡ x))
    (λ i. shown_in (above i) (name i) None (Some (File bytes))) c.file_under-in-len1-up.ensures
