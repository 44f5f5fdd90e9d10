-- What the conditions of an image have to do with one another.
use Rattle.std.specs.Prelude.{◌≡◌, ℕ, ◌≤◌, List, length, map, Some}
use Rattle.nl_types.specs.Blocks.Roots.{pages_of}
use Rattle.nl_layout.specs.declared.checkpoint_entry.CheckpointEntry.{CheckpointEntry}
use Rattle.nl_vstore.specs.Periods.{periods_of}
use Rattle.nl_vstore.specs.Stores.{IsStore, Store, content_in}
use Rattle.nl_dat.specs.declared.entries.DatEntry.{DatEntry}
use Rattle.nl_dat.specs.Images.{HasPeriod, entry_told}
use Rattle.nl_dat.specs.Table.{numbers_shown}
use Rattle.nl_cpfile.specs.declared.checkpoint.Checkpoint.{Checkpoint}
use Rattle.nl_cpfile.specs.Images.{AreRising}
use Rattle.nl_check.specs.Conditions.{AreExact, AreShaped, AreTrees}
use Rattle.nl_check.specs.Judging.{told}
use Rattle.nl_image.specs.Conditions.{FirstFails, IsImage, condition_count, number_of_last, pages_told}
use Rattle.nl_image.specs.Parts.{Parts, blocks_in, image_bytes, with_present_mark}
use Rattle.nl_image.specs.StoreImages.{IsImageOf, parts_of}

-- no condition of an image is the first that fails
abbrev pub ImagesHaveNoFault : Type 0
ImagesHaveNoFault =
    (n : ℕ) (bytes : List ℕ) (p : Parts) → n ≤ condition_count → IsImage bytes p → FirstFails n bytes → ⊥

-- and of other bytes one alone is
abbrev pub OneFailsFirst : Type 0
OneFailsFirst = (n m : ℕ) (bytes : List ℕ) → FirstFails n bytes → FirstFails m bytes → n ≡ m

-- an image is the bytes of its parts and of its blocks, one after the other: it has no others
abbrev pub ImagesAreSpelled : Type 0
ImagesAreSpelled =
    (bytes : List ℕ) (p : Parts) → IsImage bytes p → bytes ≡ image_bytes p (blocks_in p.shape bytes)

-- an image has no other parts
abbrev pub ImagesHaveOneParts : Type 0
ImagesHaveOneParts = (bytes : List ℕ) (p q : Parts) → IsImage bytes p → IsImage bytes q → p ≡ q

-- ---- images of stores

-- A store and the checkpoints kept over it have one image, where the roots of those have their shape: where a
-- root names a number without a page, its file has no one size.
abbrev pub StoresHaveOneImage : Type 0
StoresHaveOneImage =
    (store : Store) (kept : List Checkpoint) (a b : List ℕ) → (image : IsImageOf store kept a)
    → AreShaped (pages_of (content_in store)) (map told image.entries) → IsImageOf store kept b → a ≡ b

-- which has the present mark
abbrev pub PresentMarkStays : Type 0
PresentMarkStays =
    (store : Store) (kept : List Checkpoint) (bytes : List ℕ) → IsImageOf store kept bytes
    → with_present_mark bytes ≡ bytes

-- and tells the pages under its numbers
abbrev pub StoreImagesTellPages : Type 0
StoreImagesTellPages =
    (store : Store) (kept : List Checkpoint) (bytes : List ℕ) → IsStore store
    → (image : IsImageOf store kept bytes)
    → pages_told bytes (parts_of image.shape store image.entries) ≡ pages_of (content_in store)

-- What a store alone doesn't tell of the checkpoints kept over it: there are some, they rise, all numbers
-- have periods up to the latest one, and the store has their trees.
pub record AreKeptOver (store : Store) (entries : List CheckpointEntry) : Type 0 where
  pub some : 1 ≤ length entries
  pub rise : AreRising entries
  pub periods : (v : ℕ) (e : DatEntry) → entry_told (numbers_shown store) v ≡ Some e
      → HasPeriod (number_of_last entries) e
  pub shaped : AreShaped (pages_of (content_in store)) (map told entries)
  pub trees : AreTrees (pages_of (content_in store)) (map told entries)
  pub exact : AreExact (pages_of (content_in store)) (periods_of (content_in store)) (map told entries)

-- the image of a store and of checkpoints so kept over it meets all conditions
abbrev pub StoreImagesAreImages : Type 0
StoreImagesAreImages =
    (store : Store) (kept : List Checkpoint) (bytes : List ℕ) → IsStore store
    → (image : IsImageOf store kept bytes) → AreKeptOver store image.entries
    → IsImage bytes (parts_of image.shape store image.entries)
