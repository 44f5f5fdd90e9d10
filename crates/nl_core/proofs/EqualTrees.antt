-- A root fixes the tree of its checkpoint.
use Rattle.std.proofs.Common.{ℕ, Some, subst}
use Rattle.nl_layout.specs.declared.root.Root.{Root}
use Rattle.nl_cpfile.specs.Tables.{checkpoint_root}
use Rattle.nl_commit.specs.Layout.{Layout, layout_pages}
use Rattle.nl_commit.specs.Means.{RootMeans}
use Rattle.nl_commit.specs.Facts.Events.{copy_of}
use Rattle.nl_core.specs.SameTrees.{HaveOneRoot, HaveOneTree}
use Rattle.nl_core.proofs.OneWorld.{root-one}

-- so equal roots are equal trees
pub have_one_tree : (l : Layout) (old new : ℕ) → HaveOneRoot l old new → HaveOneTree l old new
have_one_tree l old new (one, other, kept, kept_too, same) w means =
    let pages = layout_pages l in
    let a = copy_of pages l.lists w old (Some one) means kept in
    let b = copy_of pages l.lists w new (Some other) means kept_too in
    let moved : RootMeans pages (checkpoint_root other) a.0.tree =
    subst (λ (r : Root). RootMeans pages r a.0.tree) same a.2.tree in
    (a.0, b.0, a.1, b.1, root-one pages (checkpoint_root other) a.0.tree b.0.tree moved b.2.tree)
