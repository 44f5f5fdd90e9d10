-- The image that was opened is that of the store and the checkpoints that were made of it.
use Rattle.std.proofs.Common.{◌≡◌, ◌∙◌, ℕ, suc, ◌+◌, ◌*◌, List, [], ◌∷◌, length, map, take, drop, Option, Some, ap, sym, refl, subst, arith}
use Rattle.std.specs.List.{AllZip}
use Rattle.std.specs.Option.{option_map}
use Rattle.std.proofs.lemmas.List.{drop-map, length-drop, length-take-le}
use Rattle.std.proofs.lemmas.List.Elements.{All-head, All-tail}
use Rattle.nl_types.specs.Blocks.Roots.{Pages, Root, pages_of}
use Rattle.nl_types.specs.Blocks.Segments.{IsUsed, Segments, total_blocks}
use Rattle.nl_layout.specs.declared.checkpoint_entry.CheckpointEntry.{CheckpointEntry}
use Rattle.nl_vstore.specs.Images as blocks
use Rattle.nl_vstore.specs.Images.{AreBlocksOf, IsPageOf}
use Rattle.nl_vstore.specs.FactsOfSpace.ImageBlocks.{page_there}
use Rattle.nl_vstore.specs.Stores.{IsStore, Store, content_in, space_in}
use Rattle.nl_dat.specs.declared.entries.DatEntry.{DatEntry}
use Rattle.nl_dat.specs.Table.{dat_entry_of, numbers_shown}
use Rattle.nl_check.specs.Conditions.{AreTrees, IsSoundTree}
use Rattle.nl_check.specs.Judging.{told}
use Rattle.nl_blocktree.specs.FileShapes.{IsSizeOf}
use Rattle.nl_cpfile.specs.Images.{IsEntryOf}
use Rattle.nl_cpfile.specs.Tables.{Table, all}
use Rattle.nl_cpfile.specs.declared.checkpoint.Checkpoint.{Checkpoint}
use Rattle.nl_cpfile.specs.Facts.ImageEntries.{count_told}
use Rattle.nl_image.specs.declared.reading.ReadImage.{ReadImage}
use Rattle.nl_image.specs.Conditions.{HasCheckpoints, HasNumbers, HasSegments, HasTrees, HasZeros, IsDivided}
use Rattle.nl_image.specs.Laws.{ImagesAreSpelled}
use Rattle.nl_layout.specs.declared.superblock.Mark.{Mark}
use Rattle.nl_layout.specs.declared.superblock.Mark.TheVariants.{First, Second}
use Rattle.nl_layout.specs.declared.superblock.Superblock.{Superblock}
use Rattle.nl_image.specs.Parts.{Parts, blocks_in, blocks_start, cpfile_in, cpfile_start, image_bytes, image_length, padding_of, total_of, with_present_mark}
use Rattle.nl_image.specs.Reading.{IsReadImage}
use Rattle.nl_image.specs.StoreImages.{AreOf, HaveSpelling, IsImageOf, IsShapeOfStore, IsSizedEntry, parts_of}
use Rattle.nl_image.specs.Facts.ReadParts.{part-length}
use Rattle.nl_commit.specs.Layout.{Layout, layout_of}
use Rattle.nl_events.specs.Opened.{opened_lists}
use Rattle.nl_core.specs.Opened.{IsRestoredStore}
use Rattle.nl_commit.specs.Volume.{Lists, kept_by}
use Rattle.nl_core.proofs.BlockPages.{IsPageAt, cut-at, cut-count, cut-spelled, cut_pages}
use Rattle.nl_core.proofs.OpenedImages.{numbers-shown, pages-are}
use Rattle.nl_core.proofs.Opening.{told-root}

-- ---- sizes

one-sized : (pages : Pages) (c : Checkpoint) (e : CheckpointEntry) → IsEntryOf c e
    → IsSoundTree pages (told e) → IsSizedEntry pages c e
one-sized pages c e is tree = record {
  entry = is;
  size = subst (λ (root : Root). IsSizeOf pages root e.size) (told-root c e tree.0 is tree.1) tree.2.sized;
}

each-sized : (pages : Pages) (kept : List Checkpoint) (entries : List CheckpointEntry)
    → AllZip IsEntryOf kept entries
    → AreTrees pages (map told entries) → AllZip (IsSizedEntry pages) kept entries
each-sized pages [] [] are trees = tt
each-sized pages [] (e ∷ entries) are trees = absurd are
each-sized pages (c ∷ kept) [] are trees = absurd are
each-sized pages (c ∷ kept) (e ∷ entries) are trees = (
  one-sized pages c e are.0 (All-head (IsSoundTree pages) (told e) (map told entries) trees),
  each-sized pages kept entries are.1 (All-tail (IsSoundTree pages) (told e) (map told entries) trees),
)

-- as many entries as checkpoints
same-count : (kept : List Checkpoint) (entries : List CheckpointEntry) → AllZip IsEntryOf kept entries
    → length kept ≡ length entries
same-count [] [] are = refl
same-count [] (e ∷ entries) are = absurd are
same-count (c ∷ kept) [] are = absurd are
same-count (c ∷ kept) (e ∷ entries) are = ap suc (same-count kept entries are.1)

-- ---- all of it

module _ (bytes : List ℕ) (r : ReadImage) (is : IsReadImage bytes r) where
  abbrev p : Parts
  p = is.parts

  divided : IsDivided bytes p
  divided = is.image.1.0

  sufile : HasSegments bytes p
  sufile = is.image.1.1.1.0

  cpfile : HasCheckpoints bytes p
  cpfile = is.image.1.1.1.1.0

  dat : HasNumbers bytes p
  dat = is.image.1.1.1.1.1.0

  trees : HasTrees bytes p
  trees = is.image.1.1.1.1.1.1.1.1.0

  zeros : HasZeros bytes p
  zeros = is.image.1.1.1.1.1.1.1.1.1.1.0

  long : length bytes ≡ image_length p.shape
  long = is.image.1.1.0

  blocks-long : length (blocks_in p.shape bytes) ≡ 1024 * total_of p.shape
  blocks-long = part-length bytes (blocks_start p.shape) (1024 * total_of p.shape) 0 (omega (arith, long))

  kept-count : p.shape.checkpoints ≡ length p.kept
  kept-count =
      let bytes-long =
      part-length bytes (cpfile_start p.shape) (160 * p.shape.checkpoints)
      (padding_of p.shape + 1024 * total_of p.shape) (omega (arith, long)) in
      let entries = count_told (cpfile_in p.shape bytes) p.kept cpfile.spelled in
      omega (arith, bytes-long, entries)

  have-spelling : HaveSpelling p
  have-spelling = record {
    shape = divided.spelled.fits;
    segments = sufile.told.fit;
    numbers = dat.fit;
    kept = cpfile.fit;
  }

  module _ (store : Store) (made : IsRestoredStore r.segments r.logs r.numbers store)
      (sound : IsStore store) where
    segments-are : store.segments ≡ p.segments
    segments-are = made.segments_are ∙ is.segments

    numbers-are : numbers_shown store ≡ p.numbers
    numbers-are =
        sym (drop-map (option_map dat_entry_of) 1 store.numbers)
        ∙ ap (λ (table : List (Option DatEntry)). drop 1 table) (numbers-shown bytes r is store made sound)

    -- the superblock under the present mark
    abbrev shape : Superblock
    shape = record p.shape { mark = Second }

    abbrev present : Parts
    present = record p { shape = shape }

    abbrev parts_with : Segments → List (Option DatEntry) → Parts
    parts_with segments numbers =
        record { shape = shape; segments = segments; numbers = numbers; kept = p.kept }

    parts-are : parts_of shape store p.kept ≡ present
    parts-are =
        ap (λ (s : Segments). parts_with s (numbers_shown store)) segments-are
        ∙ ap (λ (numbers : List (Option DatEntry)). parts_with p.segments numbers) numbers-are

    shape-of-store : IsShapeOfStore store shape
    shape-of-store = record {
      mark = refl;
      segments =
          sym (ap (λ (s : Segments). length s.each) segments-are
          ∙ (sufile.told.count ∙ sufile.shape.segments));
      blocks =
          sym (ap (λ (s : Segments). s.blocks) segments-are ∙ (sufile.told.blocks ∙ sufile.shape.blocks));
    }

    total-are : total_blocks store.segments ≡ total_of p.shape
    total-are = let a = shape-of-store.segments in let b = shape-of-store.blocks in cc

    abbrev blocks_all : List ℕ
    blocks_all = blocks_in p.shape bytes

    abbrev count_all : ℕ
    count_all = total_of p.shape

    page-of : (b : ℕ) (page : List ℕ) → IsPageAt count_all blocks_all b page
        → IsPageOf (space_in store) b page
    page-of b page at = record {
      whole = ap length at.is ∙ whole-page;
      used = λ u.
          made.stored b page
          (is.logs.pages.used b (subst (λ (s : Segments). IsUsed s b) segments-are u) ∙ there);
      unused = λ no.
          zeros.blocks b page (λ u. no (subst (λ (s : Segments). IsUsed s b) (sym segments-are) u)) there;
    }
      where
        there : blocks.pages_of_bytes blocks_all b ≡ Some page
        there = page_there blocks_all count_all b blocks-long at.inside ∙ ap Some (sym at.is)

        whole-page : length (take 1024 (drop (1024 * b) blocks_all)) ≡ 1024
        whole-page =
            let inside = at.inside in
            let dropped = length-drop (1024 * b) blocks_all in
            length-take-le 1024 (drop (1024 * b) blocks_all) (omega (arith, inside, dropped, blocks-long))

    are-blocks : AreBlocksOf (space_in store) blocks_all
    are-blocks = record {
      pages = cut_pages count_all blocks_all;
      spelled = cut-spelled count_all blocks_all blocks-long;
      count = cut-count count_all blocks_all ∙ sym total-are;
      each = λ b page at. page-of b page (cut-at count_all blocks_all b page at);
    }

    module _ (kept : List Checkpoint) (are : AllZip IsEntryOf kept r.kept) where
      entries-are : AllZip IsEntryOf kept p.kept
      entries-are = subst (AllZip IsEntryOf kept) is.kept are

      are-of : AreOf store kept shape p.kept
      are-of = record {
        shape = shape-of-store;
        count = kept-count ∙ sym (same-count kept p.kept entries-are);
        sized = each-sized (pages_of (content_in store)) kept p.kept entries-are
            (subst (λ (pages : Pages). AreTrees pages (map told p.kept))
            (pages-are bytes r is store made sound) trees);
      }

      image-restored : ImagesAreSpelled → IsImageOf store kept (with_present_mark bytes)
      image-restored spell = record {
        shape = shape;
        entries = p.kept;
        blocks = blocks_all;
        are = are-of;
        blocks_are = are-blocks;
        fit = subst HaveSpelling (sym parts-are) (record {
          shape = record {
            segments = have-spelling.shape.segments;
            blocks = have-spelling.shape.blocks;
            checkpoints = have-spelling.shape.checkpoints;
          };
          segments = have-spelling.segments;
          numbers = have-spelling.numbers;
          kept = have-spelling.kept;
        });
        spelled =
            ap with_present_mark (spell bytes p is.image) ∙ present-spelled p.shape.mark
            ∙ ap (λ (q : Parts). image_bytes q blocks_all) (sym parts-are);
      }
        where
          present-spelled : (m : Mark)
              → with_present_mark (image_bytes (record p { shape = record p.shape { mark = m } }) blocks_all)
              ≡ image_bytes present blocks_all
          present-spelled First = refl
          present-spelled Second = refl

    -- it is that of the volume that is opened
    pub image-opened : ImagesAreSpelled → (t : Table) → AllZip IsEntryOf (all t) r.kept → (lists : Lists)
        → lists ≡ opened_lists t
        → (l : Layout) → l ≡ layout_of lists store
        → IsImageOf l.store (kept_by l.lists) (with_present_mark bytes)
    image-opened spell t are lists same l is_layout =
        subst (λ (m : Layout). IsImageOf m.store (kept_by m.lists) (with_present_mark bytes)) (sym is_layout)
        (subst (λ (ls : Lists). IsImageOf store (kept_by ls) (with_present_mark bytes)) (sym same)
        (image-restored (all t) are spell))
