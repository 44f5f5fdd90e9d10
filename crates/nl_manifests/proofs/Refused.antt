-- Lines that show nothing, manifest by manifest.
use Rattle.std.proofs.Common.{◌≡◌, [], ◌∷◌, ◌++◌, Option, Some, None, refl, ap, ◌∙◌}
use Rattle.std.specs.List.{flat_map}
use Rattle.nl_types.specs.Plain.Trees.{Tree}
use Rattle.nl_manifests.specs.declared.manifest.Manifest.{Manifest}
use Rattle.nl_manifests.specs.HostTrees.{Refused, manifest_for, refused, refused_in}
use Rattle.nl_manifests.specs.Private.Opening.{Manifests, manifest_entry, manifests, refused_lines}

entries_are : (tree es : Tree)
    → refused_lines tree (flat_map (λ e. manifest_entry e.0 (manifest_for tree e.0 e.1)) es)
    ≡ flat_map (λ e. refused_in tree e.0 (manifest_for tree e.0 e.1)) es
entries_are tree [] = refl
entries_are tree (e ∷ es) =
    by (manifest_for tree e.0 e.1) (flat_map (λ f. manifest_entry f.0 (manifest_for tree f.0 f.1)) es)
    ∙ ap (λ (r : Refused). refused_in tree e.0 (manifest_for tree e.0 e.1) ++ r) (entries_are tree es)
  where
    by : (o : Option Manifest) (rest : Manifests)
        → refused_lines tree (manifest_entry e.0 o ++ rest) ≡ refused_in tree e.0 o ++ refused_lines tree rest
    by None rest = refl
    by (Some m) rest = refl

pub refused_is : (tree : Tree) → refused_lines tree (manifests tree) ≡ refused tree
refused_is tree = entries_are tree tree
