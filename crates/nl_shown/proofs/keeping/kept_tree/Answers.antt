use Rattle.std.proofs.Common.{subst, ap, ◌∙◌}
use Rattle.nl_types.specs.Plain.Trees.{Tree}
use Rattle.nl_manifests.specs.HostTrees.{HostTree, Shows}
use Rattle.nl_manifests.specs.Sealed.{IsSealed}
use Rattle.nl_pins.specs.Trees.{without_pins}
use Rattle.nl_shown.proofs.Apart.{sealed_apart}
use Rattle.nl_shown.proofs.keeping.kept_tree.Goals as goal

pub returns-clause-keeps : goal.returns-clause-keeps
returns-clause-keeps c =
    let sealed = c.in_ok-sealed.sealed in
    let is : IsSealed (without_pins c.args.folder) sealed =
    subst (λ (f : HostTree). IsSealed f sealed) (c.as_slice.ensures ∙ c.in_ok-folder.ensures) c.in_ok-sealed.ensures.sealed in
    let apart = sealed_apart c.args.folder sealed is in
    record {
      sealed = sealed;
      shows = subst (λ (f : HostTree). Shows sealed f) (c.as_slice.ensures ∙ c.in_ok-folder.ensures) c.in_ok-sealed.ensures.shows;
      apart = apart;
      beside = c.in_ok-tree.ensures;
      found =
          ap (λ (t : Tree). without_pins t) c.in_ok-tree.ensures
          ∙ c.pins_are_apart.ensures c.args.pins sealed is.ordered
          ∙ apart;
    }
