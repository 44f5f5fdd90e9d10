-- The image of a store meets the conditions.
use Rattle.std.proofs.Common.{◌≡◌, ◌∙◌, ℕ, ◌*◌, ◌≤◌, List, ap, arith, length, refl, subst, sym, take}
use Rattle.std.specs.Prelude.{map}
use Rattle.std.proofs.lemmas.List.{take-take}
use Rattle.std.proofs.lemmas.Slice.Zip.{AllZip-long}
use Rattle.nl_types.specs.Plain.Limits.{IsGeometry}
use Rattle.nl_types.specs.Blocks.Roots as roots
use Rattle.nl_types.specs.Blocks.Roots.{Pages}
use Rattle.nl_types.specs.Blocks.Segments.{IsUsed, total_blocks}
use Rattle.nl_device.specs.Pages.{DevicePages}
use Rattle.nl_layout.specs.Superblock.{HasMark, mark_bytes, superblock_bytes}
use Rattle.nl_layout.specs.declared.superblock.Mark.{Mark}
use Rattle.nl_layout.specs.declared.superblock.Mark.TheVariants.{First, Second}
use Rattle.nl_layout.specs.declared.superblock.Superblock.{Superblock}
use Rattle.nl_vstore.specs.Images.{IsRestZero, pages_of_bytes}
use Rattle.nl_vstore.specs.Periods.{Periods, periods_of}
use Rattle.nl_vstore.specs.Stores.{IsStore, Store, content_in, device_in, space_in}
use Rattle.nl_cpfile.specs.declared.checkpoint.Checkpoint.{Checkpoint}
use Rattle.nl_cpfile.specs.Images.{are_known_to}
use Rattle.nl_check.specs.Conditions.{AreExact, AreShaped, AreTrees}
use Rattle.nl_check.specs.Judging.{told}
use Rattle.nl_image.specs.Conditions.{HasCheckpoints, HasItsLength, HasLogs, HasNumbers, HasPeriods, HasSegments, HasShapes, HasTrees, HasZeros, IsDivided, IsImage, blocks_told, pages_told, periods_told}
use Rattle.nl_image.specs.Laws.{AreKeptOver, StoreImagesAreImages, StoreImagesTellPages}
use Rattle.nl_image.specs.Parts.{Parts, total_of}
use Rattle.nl_image.specs.StoreImages.{IsImageOf, IsSizedEntry, parts_of}
use Rattle.nl_image.proofs.SpelledParts.{HaveCounts, all-long, blocks-told, head-told, kept-told, numbers-told, padding-told, segments-told}
use Rattle.nl_image.proofs.StoreBlocks.{blocks-long, rest-zero, used-block}
use Rattle.nl_image.proofs.StoreLogs.{held-is, hold-logs, payload-of}
use Rattle.nl_image.specs.Facts.StoreNumbers.{are-own, are-used, numbers-long, own-blocks, pages-are, periods-are}

-- bytes that begin with a superblock begin with the mark
marked : (bytes : List ℕ) (s : Superblock) → 1024 ≤ length bytes → take 1024 bytes ≡ superblock_bytes s
    → HasMark bytes
marked bytes s long is = record {
  long = long;
  mark = (s.mark, sym (take-take 8 1024 bytes (omega arith)) ∙ ap (take 8) is ∙ beginning s.mark);
}
  where
    beginning : (m : Mark) → take 8 (superblock_bytes (record s { mark = m })) ≡ mark_bytes m
    beginning First = refl
    beginning Second = refl

module _ (store : Store) (kept : List Checkpoint) (bytes : List ℕ) (is : IsStore store)
    (image : IsImageOf store kept bytes) where
  abbrev parts : Parts
  parts = parts_of image.shape store image.entries

  same-total : total_of image.shape ≡ total_blocks store.segments
  same-total =
      ap (λ (n : ℕ). n * image.shape.blocks) image.are.shape.segments
      ∙ ap (λ (n : ℕ). length store.segments.each * n) image.are.shape.blocks

  kept-count : length image.entries ≡ image.shape.checkpoints
  kept-count =
      AllZip-long (IsSizedEntry (roots.pages_of (content_in store))) kept image.entries image.are.sized
      ∙ sym image.are.count

  counts : HaveCounts parts image.blocks
  counts = record {
    segment_count = sym image.are.shape.segments;
    number_count = numbers-long store is ∙ sym same-total;
    kept_count = kept-count;
    block_count =
        blocks-long (space_in store) image.blocks image.blocks_are
        ∙ ap (λ (n : ℕ). 1024 * n) (sym same-total);
  }

  -- the blocks of the image are those that were written
  blocks-are : blocks_told bytes parts ≡ pages_of_bytes image.blocks
  blocks-are = ap pages_of_bytes (blocks-told parts image.blocks bytes counts image.spelled)

  used-are : (b : ℕ) → IsUsed store.segments b → blocks_told bytes parts b ≡ device_in store b
  used-are b used =
      ap (λ (blocks : DevicePages). blocks b) blocks-are
      ∙ used-block (space_in store) image.blocks image.blocks_are is.limits.tidy b used

  -- ---- what stands in front of the blocks

  has-length : HasItsLength bytes parts
  has-length = all-long parts image.blocks bytes counts image.spelled

  head-is : take 1024 bytes ≡ superblock_bytes image.shape
  head-is = head-told parts image.blocks bytes counts image.spelled

  limits : IsGeometry image.shape.segments image.shape.blocks
  limits = rw (image.are.shape.segments, image.are.shape.blocks) is.limits.geometry

  has-segments : HasSegments bytes parts
  has-segments = record {
    geometry = record {
      segments = image.shape.segments;
      blocks = image.shape.blocks;
      least_segments = limits.least_segments;
      most_segments = limits.most_segments;
      least_blocks = limits.least_blocks;
      most_blocks = limits.most_blocks;
      most = limits.most;
    };
    shape = record { segments = refl; blocks = refl };
    told = record {
      spelled = segments-told parts image.blocks bytes counts image.spelled;
      fit = image.fit.segments;
      count = sym image.are.shape.segments;
      blocks = sym image.are.shape.blocks;
      tidy = is.limits.tidy;
      have_logs = is.have_logs;
    };
  }

  -- ---- the blocks

  has-logs : HasLogs bytes parts
  has-logs = record {
    payload = payload-of store is;
    whole = hold-logs store is (blocks_told bytes parts) used-are;
    own = are-own store is _ (held-is store is);
  }

  has-zeros : HasZeros bytes parts
  has-zeros = record {
    padding = padding-told parts image.blocks bytes counts image.spelled;
    blocks =
        subst (IsRestZero store.segments) (sym blocks-are)
        (rest-zero (space_in store) image.blocks image.blocks_are);
  }

  -- ---- the pages and periods of numbers

  same-pages : pages_told bytes parts ≡ roots.pages_of (content_in store)
  same-pages = pages-are store is (blocks_told bytes parts) used-are

  same-periods : periods_told parts ≡ periods_of (content_in store)
  same-periods = periods-are store is

  -- ---- all conditions, where the checkpoints are kept over the store

  module _ (over : AreKeptOver store image.entries) where
    is-divided : IsDivided bytes parts
    is-divided = record {
      spelled = record { fits = image.fit.shape; spelling = head-is };
      geometry = limits;
      some = subst (λ (n : ℕ). 1 ≤ n) kept-count over.some;
    }

    has-checkpoints : HasCheckpoints bytes parts
    has-checkpoints = record {
      spelled = kept-told parts image.blocks bytes counts image.spelled;
      fit = image.fit.kept;
      rise = over.rise;
      known = ap (λ (m : Mark). are_known_to m image.entries) image.are.shape.mark;
    }

    has-numbers : HasNumbers bytes parts
    has-numbers = record {
      spelled = numbers-told parts image.blocks bytes counts image.spelled;
      fit = image.fit.numbers;
      count = numbers-long store is;
      entries = λ v e at. record { period = over.periods v e at; used = are-used store is v e at };
      apart = own-blocks store is;
    }

    has-shapes : HasShapes bytes parts
    has-shapes =
        subst (λ (pages : Pages). AreShaped pages (map told image.entries)) (sym same-pages) over.shaped

    has-trees : HasTrees bytes parts
    has-trees = subst (λ (pages : Pages). AreTrees pages (map told image.entries)) (sym same-pages) over.trees

    has-periods : HasPeriods bytes parts
    has-periods =
        subst (λ (pages : Pages). AreExact pages (periods_told parts) (map told image.entries))
        (sym same-pages)
        (subst (λ (periods : Periods).
        AreExact (roots.pages_of (content_in store)) periods (map told image.entries))
        (sym same-periods) over.exact)

    meets-all : IsImage bytes parts
    meets-all = (
      marked bytes image.shape (omega (arith, has-length)) head-is,
      (
        is-divided,
        (
          has-length,
          (
            has-segments,
            (
              has-checkpoints,
              (
                has-numbers,
                (
                  has-logs,
                  (has-shapes, (has-trees, (has-periods, (has-zeros, tt)))),
                ),
              ),
            ),
          ),
        ),
      ),
    )

-- an image tells the pages under its store's numbers, whatever checkpoints are kept
pub store_images_tell_pages : StoreImagesTellPages
store_images_tell_pages store kept bytes is image = same-pages store kept bytes is image

pub store_images_are_images : StoreImagesAreImages
store_images_are_images store kept bytes is image over = meets-all store kept bytes is image over
