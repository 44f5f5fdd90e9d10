-- What comes back on a host of which all is known.
use Rattle.std.proofs.Common.{◌≡◌, ℕ, [], ◌∷◌, Option, None, Some, IfSome, sym, ◌∙◌, subst}
use Rattle.nl_types.specs.Plain.Worlds.{formatted}
use Rattle.nl_image.specs.Parts.{with_present_mark}
use Rattle.nl_manifests.specs.HostTrees.{HostTree}
use Rattle.nl_pins.specs.Trees.{without_pins}
use Rattle.nl_shown.specs.Kept.{RootsHaveAll}
use Rattle.nl_keep_pen.specs.Images.{ImageMeans, StoresInImage}
use Rattle.nl_keep_pen.specs.Runs.{ImagesHaveThePresentMark}
use Rattle.nl_backups.specs.Commands.{BacksUpAs, Makes, Restores, ShowsFromImage, StoresFolder}
use Rattle.nl_backups.specs.Effects.{EffectsKeepCheckpoints, FoldersComeBack, Stores}
use Rattle.nl_backups.specs.Hosts.{Image}
use Rattle.nl_backups.proofs.ComeBack.{is_tree, marked_too}

-- a folder is kept in a new image, then another one, and the first is laid out
module _ (marked : ImagesHaveThePresentMark) (keep : EffectsKeepCheckpoints) (law : FoldersComeBack)
    (roots : RootsHaveAll) where
  comes_again : (made moment later n m : ℕ) (folder other laid : HostTree) (one two three : Image)
      → Makes made (Some one) → BacksUpAs moment n (Some folder) (Some one) (Some two)
      → BacksUpAs later m (Some other) (Some two) (Some three)
      → Restores n [] (Some three) (Some laid) → laid ≡ without_pins folder
  comes_again made moment later n m folder other laid one two three makes first second restores =
      let a = first.backs_up.stores in
      let b = second.backs_up.stores in
      let k = second.told.stored.number in
      let w = formatted made in
      let from : ImageMeans (with_present_mark a.0) w =
      subst (λ (bytes : Image). ImageMeans (with_present_mark bytes) w) (sym makes.is_image ∙ a.2)
      (marked_too marked makes.image w makes.means) in
      let stores : StoresFolder moment folder first.told a.0 a.1 =
      subst (λ (f : HostTree). StoresFolder moment f first.told a.0 a.1) (sym first.backs_up.is_given) a.3 in
      let next : StoresInImage later k second.told.tree a.1 b.1 =
      subst (λ (bytes : Image). StoresInImage later k second.told.tree bytes b.1) (sym b.2 ∙ a.4)
      b.3.stored.stores in
      let last : restores.image ≡ b.1 = sym restores.is_image ∙ b.4 in
      let shows : ShowsFromImage first.told.stored.number restores.shown restores.image =
      subst (λ (q : ℕ). ShowsFromImage q restores.shown restores.image) (sym first.number) restores.shows in
      let on = stores.stored.stores w from in
      let kept = keep (Stores later k second.told.tree) n a.1 b.1 on.1 on.4 next tt in
      let means : ImageMeans (with_present_mark restores.image) kept.after =
      marked_too marked restores.image kept.after
      (subst (λ (bytes : Image). ImageMeans bytes kept.after) (sym last) kept.means) in
      restores.is_laid
      ∙ roots restores.shows.tree restores.shown
      (is_tree n restores.shows.tree restores.image kept.after restores.shows.reads means)
      (restores.shows.shows kept.after means)
      ∙ law moment folder restores.shown first.told a.0 a.1 restores.image
      (Stores later k second.told.tree ∷ []) w from stores (b.1, next, last) (tt, tt) shows

  pub laid_again : (made moment later n m : ℕ) (folder other : HostTree) (laid : Option HostTree)
      (one two three : Image) → Makes made (Some one) → BacksUpAs moment n (Some folder) (Some one) (Some two)
      → BacksUpAs later m (Some other) (Some two) (Some three)
      → Restores n [] (Some three) laid → IfSome laid (λ tree. tree ≡ without_pins folder)
  laid_again made moment later n m folder other None one two three makes first second restores = tt
  laid_again made moment later n m folder other (Some laid) one two three makes first second restores =
      comes_again made moment later n m folder other laid one two three makes first second restores
