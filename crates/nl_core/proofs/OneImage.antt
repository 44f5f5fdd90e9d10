-- Pens of one image mean one world.
use Rattle.std.proofs.Common.{◌≡◌, ◌⊎◌, ◌<◌, ℕ, List, [], ◌∷◌, map, Option, ap, arith, inl, inr, refl, sym, subst, ◌∙◌}
use Rattle.std.specs.List.{AllZip}
use Rattle.std.specs.Option.{option_map}
use Rattle.std.specs.Ordering.{nat_cmp}
use Rattle.std.specs.FinMap.{find}
use Rattle.std.proofs.lemmas.Option.{same_Some}
use Rattle.nl_types.specs.Blocks.Roots.{Pages}
use Rattle.nl_types.specs.Plain.Trees.{Tree}
use Rattle.nl_types.specs.Plain.Worlds.{Copy, World, greatest, numbers}
use Rattle.nl_layout.specs.Root.{fields_of}
use Rattle.nl_layout.specs.declared.root.RootFields.{RootFields}
use Rattle.nl_layout.specs.declared.root.Root.TheVariants as variant
use Rattle.nl_layout.specs.declared.checkpoint_entry.CheckpointEntry.{CheckpointEntry}
use Rattle.nl_layout.specs.declared.root.Root.{Root}
use Rattle.nl_check.specs.Laws.{SoundCheckpointsMeetAll}
use Rattle.nl_cpfile.specs.declared.checkpoint.Checkpoint.{Checkpoint}
use Rattle.nl_cpfile.specs.Images.{IsEntryOf}
use Rattle.nl_image.specs.Conditions.{pages_told}
use Rattle.nl_image.specs.Laws.{ImagesHaveOneParts, StoreImagesAreImages, StoreImagesTellPages}
use Rattle.nl_image.specs.Parts.{Parts}
use Rattle.nl_image.specs.StoreImages.{parts_of}
use Rattle.nl_commit.specs.Layout.{IsPen, Layout, MeansWorld, layout_pages}
use Rattle.nl_commit.specs.Means.{CopyMeans}
use Rattle.nl_core.specs.PenImages.{CanBeClosed, ImagesMeanOneWorld, IsPenImage}
use Rattle.nl_commit.specs.Volume.{kept_by, mount_of}
use Rattle.nl_core.proofs.OneWorld.{copies-one}
use Rattle.nl_core.proofs.PenImages.{entries-of, pen_images_are_images}

-- ---- checkpoints of one entry

abbrev kind_of_fields : RootFields → ℕ
kind_of_fields fields = fields.kind

apart : (m n : ℕ) → m ≡ n → (m < n) ⊎ (n < m) → ⊥
apart m n same (inl low) = omega (arith, same, low)
apart m n same (inr high) = omega (arith, same, high)

fields-one : (a b : Root) → fields_of a ≡ fields_of b → a ≡ b
fields-one variant.Empty variant.Empty same = refl
fields-one variant.Empty (variant.Chain u) same =
    absurd (apart 0 1 (ap kind_of_fields same) (inl (omega arith)))
fields-one variant.Empty (variant.Tree h u) same =
    absurd (apart 0 2 (ap kind_of_fields same) (inl (omega arith)))
fields-one (variant.Chain t) variant.Empty same =
    absurd (apart 1 0 (ap kind_of_fields same) (inr (omega arith)))
fields-one (variant.Chain t) (variant.Chain u) same =
    ap variant.Chain (ap (λ (f : RootFields). f.number) same)
fields-one (variant.Chain t) (variant.Tree h u) same =
    absurd (apart 1 2 (ap kind_of_fields same) (inl (omega arith)))
fields-one (variant.Tree g t) variant.Empty same =
    absurd (apart 2 0 (ap kind_of_fields same) (inr (omega arith)))
fields-one (variant.Tree g t) (variant.Chain u) same =
    absurd (apart 2 1 (ap kind_of_fields same) (inr (omega arith)))
fields-one (variant.Tree g t) (variant.Tree h u) same =
    ap (λ (k : ℕ). variant.Tree k t) (ap (λ (f : RootFields). f.height) same)
    ∙ ap (variant.Tree h) (ap (λ (f : RootFields). f.number) same)

checkpoint-one : (c d : Checkpoint) (e : CheckpointEntry) → IsEntryOf c e → IsEntryOf d e → c ≡ d
checkpoint-one c d e a b =
    let number = sym a.number ∙ b.number in
    let mode = sym a.mode ∙ b.mode in
    let minor = sym a.minor ∙ b.minor in
    let stamp = sym a.stamp ∙ b.stamp in
    let root = fields-one c.root d.root (sym a.root ∙ b.root) in
    let inodes = sym a.inodes ∙ b.inodes in
    λ i. record {
      number = number i;
      mode = mode i;
      minor = minor i;
      stamp = stamp i;
      root = root i;
      inodes = inodes i;
    }

kept-one : (kept others : List Checkpoint) (entries : List CheckpointEntry) → AllZip IsEntryOf kept entries
    → AllZip IsEntryOf others entries → kept ≡ others
kept-one [] [] entries a b = refl
kept-one [] (d ∷ others) [] a b = absurd b
kept-one [] (d ∷ others) (e ∷ entries) a b = absurd a
kept-one (c ∷ kept) others [] a b = absurd a
kept-one (c ∷ kept) [] (e ∷ entries) a b = absurd b
kept-one (c ∷ kept) (d ∷ others) (e ∷ entries) a b =
    let first = checkpoint-one c d e a.0 b.0 in
    let rest = kept-one kept others entries a.1 b.1 in
    λ i. first i ∷ rest i

-- ---- the tree of a world is that of its latest copy

abbrev latest_tree : List (ℕ × Copy) → Option Tree
latest_tree copies = option_map (λ (copy : Copy). copy.tree) (find nat_cmp (greatest (numbers copies)) copies)

module _ (meets_all : SoundCheckpointsMeetAll) (are_images : StoreImagesAreImages)
    (tell : StoreImagesTellPages)
    (one : ImagesHaveOneParts) (l m : Layout) (bytes : List ℕ) (w v : World) (pen : IsPen l) (other : IsPen m)
    (image : IsPenImage l bytes) (other_image : IsPenImage m bytes) (closed : CanBeClosed l.lists)
    (other_closed : CanBeClosed m.lists) (means : MeansWorld l w) (other_means : MeansWorld m v) where
  abbrev parts : Parts
  parts = parts_of image.shape l.store image.entries

  abbrev other_parts : Parts
  other_parts = parts_of other_image.shape m.store other_image.entries

  same-parts : parts ≡ other_parts
  same-parts = one bytes parts other_parts (pen_images_are_images meets_all are_images l bytes pen image)
      (pen_images_are_images meets_all are_images m bytes other other_image)

  same-pages : layout_pages l ≡ layout_pages m
  same-pages =
      sym (tell l.store (kept_by l.lists) bytes pen.sound.store image)
      ∙ ap (pages_told bytes) same-parts
      ∙ tell m.store (kept_by m.lists) bytes other.sound.store other_image

  same-kept : kept_by l.lists ≡ kept_by m.lists
  same-kept = kept-one (kept_by l.lists) (kept_by m.lists) other_image.entries
      (subst (AllZip IsEntryOf (kept_by l.lists)) (ap (λ (p : Parts). p.kept) same-parts)
      (entries-of (layout_pages l) (kept_by l.lists) image.entries image.are.sized))
      (entries-of (layout_pages m) (kept_by m.lists) other_image.entries other_image.are.sized)

  same-copies : w.copies ≡ v.copies
  same-copies = copies-one (layout_pages m) (kept_by m.lists) w.copies v.copies
      (subst (λ (pages : Pages). AllZip (CopyMeans pages) (kept_by m.lists) w.copies) same-pages
      (subst (λ (kept : List Checkpoint). AllZip (CopyMeans (layout_pages l)) kept w.copies) same-kept
      means.copies))
      other_means.copies

  same-tree : w.tree ≡ v.tree
  same-tree = same_Some w.tree v.tree
      (sym (means.world.clean (means.dirty ∙ closed.clean))
      ∙ ap latest_tree same-copies
      ∙ other_means.world.clean (other_means.dirty ∙ other_closed.clean))

  same-world : record w { given = 0 } ≡ record v { given = 0 }
  same-world =
      let tree = same-tree in
      let dirty = means.dirty ∙ closed.clean ∙ sym (other_means.dirty ∙ other_closed.clean) in
      let copies = same-copies in
      let mounts =
      means.mounts ∙ ap (map mount_of) (closed.unmounted ∙ sym other_closed.unmounted)
      ∙ sym other_means.mounts in
      λ i. record { tree = tree i; dirty = dirty i; copies = copies i; mounts = mounts i; given = 0 }

pub images_mean_one_world : SoundCheckpointsMeetAll → StoreImagesAreImages → StoreImagesTellPages
    → ImagesHaveOneParts
    → ImagesMeanOneWorld
images_mean_one_world meets_all are_images tell one l m bytes w v pen other image other_image closed
    other_closed means other_means =
    same-world meets_all are_images tell one l m bytes w v pen other image other_image closed other_closed
    means other_means
