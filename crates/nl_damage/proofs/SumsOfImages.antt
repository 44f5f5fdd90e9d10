-- An image has one sum.
use Rattle.std.proofs.Common.{◌≡◌, ◌∙◌, ℕ, ◌-◌, ◌*◌, ◌/◌, List, Some, ap, length, map, subst, sym, take}
use Rattle.std.specs.List.{range_with_len}
use Rattle.nl_types.specs.declared.geometry.Geometry.{Geometry}
use Rattle.nl_layout.specs.declared.checkpoint_entry.CheckpointEntry.{CheckpointEntry}
use Rattle.nl_layout.specs.declared.superblock.Superblock.{Superblock}
use Rattle.nl_image.specs.Conditions.{IsShapeOf, MeetsFirst}
use Rattle.nl_image.specs.Parts.{Parts, cpfile_in}
use Rattle.nl_damage.specs.declared.sections.Sections.{Sections}
use Rattle.nl_damage.specs.declared.sums.sum.Kept.{Kept}
use Rattle.nl_damage.specs.declared.sums.sum.Sum.{Sum}
use Rattle.nl_damage.specs.ImageSums.{IsImageSum, IsKeptIn, IsSumOf, digest_of, digest_of_segment}
use Rattle.nl_damage.specs.Sections.{AreImageSections, HasTooMany, IsEntryAt, item_in, last_place}

-- ---- equal parts

one-sum : (image : List ℕ) (g : Geometry) (kept : Kept) (a b : Sum) → IsSumOf image g kept a
    → IsSumOf image g kept b → a ≡ b
one-sum image g kept a b one other = λ i. record {
  save = record {
    bytes = (one.bytes ∙ sym other.bytes) i;
    segments = (one.divided ∙ sym other.divided) i;
    blocks = (one.blocks ∙ sym other.blocks) i;
    checkpoints = (one.count ∙ sym other.count) i;
    latest = (one.latest ∙ sym other.latest) i;
    tables = (one.tables ∙ sym other.tables) i;
  };
  whole = (one.whole ∙ sym other.whole) i;
  segments = (one.segments ∙ sym other.segments) i;
}

-- the sum goes by the counts of segments and blocks alone
same-division : (image : List ℕ) (g h : Geometry) (kept : Kept) (sum : Sum) → g.segments ≡ h.segments
    → g.blocks ≡ h.blocks → IsSumOf image g kept sum → IsSumOf image h kept sum
same-division image g h kept sum segments blocks is = record {
  bytes = is.bytes;
  divided = is.divided ∙ segments;
  blocks = is.blocks ∙ blocks;
  count = is.count;
  latest = is.latest;
  tables =
      is.tables ∙ (λ i. digest_of (take (length image - 1024 * (segments i * blocks i)) image));
  whole = is.whole;
  segments =
      is.segments
      ∙ (λ i.
      map (digest_of_segment image (length image - 1024 * (segments i * blocks i)) (1024 * blocks i))
      (range_with_len 0 (segments i)));
}

-- ---- the same table

moved : (x y : Sections) (e : CheckpointEntry) → x.checkpoints.now ≡ y.checkpoints.now
    → IsEntryAt x (last_place x) e → IsEntryAt y (last_place y) e
moved x y e same at = record {
  bytes = at.bytes;
  there =
      subst (λ (items : List ℕ). item_in items 160 (length items / 160 - 1) ≡ Some at.bytes) same at.there;
  spells = at.spells;
}

kept-in : (x y : Sections) (kept : Kept) → x.superblock ≡ y.superblock
    → x.checkpoints.now ≡ y.checkpoints.now → IsKeptIn x kept → IsKeptIn y kept
kept-in x y kept shape same is = record {
  count = is.count ∙ ap (λ (s : Superblock). s.checkpoints) shape;
  latest = record {
    read = λ e at. is.latest.read e (moved y x e (sym same) at);
    unread = λ none. is.latest.unread (λ e at. none e (moved x y e same at));
  };
}

-- ---- one sum

-- bytes that aren't divided have no sum
pub too_many : (image : List ℕ) (sum : Sum)
    → ((p : Parts) → MeetsFirst 3 image p → HasTooMany p.shape) → IsImageSum image sum → ⊥
too_many image sum many is =
    let meets = is.are.meets in
    is.are.few (subst (λ (s : Superblock). HasTooMany s) meets.2 (many meets.0 meets.1))

-- each sum of the image is the one by these sections
pub image_sum : (image : List ℕ) (x : Sections) (kept : Kept) (sum other : Sum) → AreImageSections image x
    → ((p : Parts) → MeetsFirst 2 image p → p.shape ≡ x.superblock)
    → ((told : Kept) → IsKeptIn x told → told ≡ kept)
    → IsSumOf image x.geometry kept sum → IsImageSum image other → sum ≡ other
image_sum image x kept sum other are only one is other-is =
    let y = other-is.sections in
    let meets = other-is.are.meets in
    let shape : y.superblock ≡ x.superblock = sym meets.2 ∙ only meets.0 (meets.1.0, (meets.1.1.0, tt)) in
    let table : y.checkpoints.now ≡ x.checkpoints.now =
    other-is.are.are.checkpoints ∙ ap (λ (s : Superblock). cpfile_in s image) shape ∙ sym are.are.checkpoints in
    let kept-same : other-is.kept ≡ kept =
    one other-is.kept (kept-in y x other-is.kept shape table other-is.is_kept) in
    let other-shape : IsShapeOf y.geometry x.superblock =
    subst (λ (s : Superblock). IsShapeOf y.geometry s) shape other-is.are.are.shape in
    let under : IsSumOf image x.geometry kept other =
    subst (λ (k : Kept). IsSumOf image x.geometry k other) kept-same
    (same-division image y.geometry x.geometry other-is.kept other
    (other-shape.segments ∙ sym are.are.shape.segments) (other-shape.blocks ∙ sym are.are.shape.blocks)
    other-is.sum_is) in
    one-sum image x.geometry kept sum other is under
