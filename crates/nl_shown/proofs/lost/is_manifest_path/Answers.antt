use Rattle.std.proofs.Common.{◌∙◌, ap, sym}
use Rattle.nl_types.specs.Plain.Paths.{Name, same_name}
use Rattle.nl_manifests.specs.HostTrees.{manifest_name}
use Rattle.nl_shown.proofs.LostTrees.{last_is}
use Rattle.nl_shown.proofs.lost.is_manifest_path.Goals as goal

pub returns-in-len1-up : goal.returns-in-len1-up
returns-in-len1-up c =
    let last = c.index-path-last.result in
    c.is_manifest_name.ensures
    ∙ ap (λ (n : Name). same_name n manifest_name)
    (c.as_slice.ensures ∙ c.index-path-last.is ∙ sym (last_is c.args.path.now last c.in-len1-up.len_at_least))
