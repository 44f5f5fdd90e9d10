-- What is shown of a volume that was opened of an image, in the order of the paths.
use Rattle.std.proofs.Common.{ℕ, sym, subst}
use Rattle.nl_types.specs.Plain.Trees.{Tree, IsTree}
use Rattle.nl_types.specs.Plain.Worlds.{World}
use Rattle.nl_image.specs.Parts.{with_present_mark}
use Rattle.nl_commit.specs.Layout.{Layout}
use Rattle.nl_manifests.specs.HostTrees.{HostTree}
use Rattle.nl_shown.specs.Kept.{ShowsFolder}
use Rattle.nl_shown.specs.Reverted.{IsInOrder}
use Rattle.nl_keep_pen.specs.Images.{HasCurrent, ImageMeans, ReadsFromImage}
use Rattle.nl_keep_pen.specs.Opened.{IsOpenedOf}
use Rattle.nl_backups.specs.Commands.{ShowsFromImage}
use Rattle.nl_backups.specs.Hosts.{Image}
use Rattle.nl_backups.specs.Reverting.{ShowsNow}
use Rattle.nl_backups.proofs.ComeBack.{is_tree}

-- the image means the world of the volume
means : (image : Image) (opened : Layout) → (of : IsOpenedOf image opened)
    → ImageMeans (with_present_mark image) of.pen.world.0
means image opened of = record {
  layout = opened;
  pen = of.pen;
  is_image = of.is_image;
  closed = of.closed;
  means = of.pen.world.1;
}

module _ (tree : Tree) (shown : HostTree) (image : Image) (shows : IsTree tree → ShowsFolder tree shown) where
  -- ---- of a checkpoint

  pub shows_from : (n : ℕ) → ReadsFromImage n tree image → ShowsFromImage n shown image
  shows_from n reads = record {
    tree = tree;
    reads = reads;
    shows = λ w from. shows (is_tree n tree image w reads from);
  }

  pub from_ordered : (n : ℕ) (opened : Layout) → IsOpenedOf image opened → ReadsFromImage n tree image
      → IsInOrder shown
  from_ordered n opened of reads =
      (shows (is_tree n tree image of.pen.world.0 reads (means image opened of))).ordered

  -- ---- of the current tree

  current_is_tree : (w : World) → HasCurrent tree image → ImageMeans (with_present_mark image) w → IsTree tree
  current_is_tree w has from = subst (λ (t : Tree). IsTree t) (sym (has w from)) from.means.world.tree

  pub shows_now : HasCurrent tree image → ShowsNow shown image
  shows_now has w from =
      subst (λ (t : Tree). ShowsFolder t shown) (has w from) (shows (current_is_tree w has from))

  pub now_ordered : (opened : Layout) → IsOpenedOf image opened → HasCurrent tree image → IsInOrder shown
  now_ordered opened of has =
      (shows (current_is_tree of.pen.world.0 has (means image opened of))).ordered
