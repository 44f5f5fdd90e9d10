use Rattle.std.proofs.Common.{◌≡◌, ◌∙◌, [], ap}
use Rattle.std.specs.FinMap.{find}
use Rattle.nl_types.specs.Plain.Paths.{path_cmp}
use Rattle.nl_manifests.specs.Private.Opening.{manifests, parts, refused_lines}
use Rattle.nl_manifests.specs.Private.Places.{puts}
use Rattle.nl_manifests.proofs.OpenedTrees.{opened_is}
use Rattle.nl_manifests.proofs.Refused.{refused_is}
use Rattle.nl_manifests.proofs.opening.open.Goals as goal

pub returns-clause-shows : goal.returns-clause-shows
returns-clause-shows c t =
    let tree = c.args.tree.now in
    let put = c.in_ok-shown.ensures in
    let entries : c.of-entries.result.all.now ≡ tree = c.of-entries.ensures in
    let all : c.of-manifests.result.all.now ≡ manifests tree =
    c.of-manifests.ensures ∙ c.as_slice.ensures ∙ c.in_ok-all.ensures ∙ ap manifests entries in
    record {
      ordered = put.ordered;
      each = λ q.
          ap (find path_cmp q) put.is
          ∙ (λ i. find path_cmp q (puts [] (parts (entries i) (all i) (entries i))))
          ∙ opened_is tree t q;
    }

pub returns-clause-refused : goal.returns-clause-refused
returns-clause-refused c =
    let tree = c.args.tree.now in
    let entries : c.of-entries.result.all.now ≡ tree = c.of-entries.ensures in
    let all : c.of-manifests.result.all.now ≡ manifests tree =
    c.of-manifests.ensures ∙ c.as_slice.ensures ∙ c.in_ok-all.ensures ∙ ap manifests entries in
    c.in_ok-refused.ensures ∙ (λ i. refused_lines (entries i) (all i)) ∙ refused_is tree
