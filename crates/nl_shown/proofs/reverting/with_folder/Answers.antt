use Rattle.std.proofs.Common.{◌≡◌, ap, sym, subst, ◌∙◌}
use Rattle.std.specs.FinMap.{find}
use Rattle.nl_types.specs.Plain.Paths.{path_cmp}
use Rattle.nl_manifests.specs.HostTrees.{HostTree}
use Rattle.nl_shown.specs.declared.reverting.Standing.TheVariants.{Folder, Nothing}
use Rattle.nl_shown.specs.Reverted.{IsInOrder}
use Rattle.nl_shown.specs.Private.Inserting.{inserted, standing_of}
use Rattle.nl_shown.proofs.RevertedTrees.{folder_comes, folder_stays, nothing_stands}
use Rattle.nl_shown.proofs.reverting.with_folder.Goals as goal

pub returns-in-Folder-clause-done : goal.returns-in-Folder-clause-done
returns-in-Folder-clause-done c sorted =
    folder_stays c.args.path.now c.args.earlier c.args.tree sorted
    (sym (subst (λ (t : HostTree). IsInOrder t → Folder ≡ standing_of (find path_cmp c.args.path.now t))
    c.as_slice.ensures c.in-Folder.ensures sorted))

pub returns-in_ok-tree-in-Nothing-clause-done : goal.returns-in_ok-tree-in-Nothing-clause-done
returns-in_ok-tree-in-Nothing-clause-done c sorted =
    folder_comes c.args.path.now c.args.earlier c.args.tree c.in_ok-tree-in-Nothing.tree sorted
    (nothing_stands _ (sym (subst (λ (t : HostTree). IsInOrder t
    → Nothing ≡ standing_of (find path_cmp c.args.path.now t)) c.as_slice.ensures c.in-Nothing.ensures sorted)))
    (c.in_ok-tree-in-Nothing.ensures
    ∙ ap (λ (part : HostTree). inserted c.args.path.now part c.args.tree) c.in_ok-part-in-Nothing.ensures)
