-- What is opened of an image, and what it has to be for a pen.
use Rattle.std.specs.Prelude.{◌≡◌, ◌⊎◌, ℕ, ◌+◌, ◌≤◌, List, [], false, All, Option, Some}
use Rattle.nl_types.specs.Plain.Limits.{first_inode}
use Rattle.nl_types.specs.declared.error.VolError.{VolError}
use Rattle.nl_types.specs.declared.error.VolError.TheVariants.{Fault}
use Rattle.nl_types.specs.Blocks.Entries.{Content}
use Rattle.nl_types.specs.Blocks.Lifetimes.{IsBounded}
use Rattle.nl_types.specs.Blocks.Segments.{Segments}
use Rattle.nl_layout.specs.Root.{root_of}
use Rattle.nl_vstore.specs.Stores.{IsStore, Store, content_in, device_in, payload_in}
use Rattle.nl_segwriter.specs.declared.images.Restored.{Restored}
use Rattle.nl_segwriter.specs.Images.{page_in}
use Rattle.nl_segwriter.specs.Writing.{held_in}
use Rattle.nl_dat.specs.declared.entries.DatEntry.{DatEntry}
use Rattle.nl_dat.specs.Table.{entries_shown}
use Rattle.nl_check.specs.Laws.{MeetsAll}
use Rattle.nl_cpfile.specs.Tables.{IsTable, checkpoint_root}
use Rattle.nl_cpfile.specs.declared.checkpoint.Checkpoint.{Checkpoint}
use Rattle.nl_image.specs.Conditions.{AreImage}
use Rattle.nl_image.specs.Reading.{IsRefusal}
use Rattle.nl_commit.specs.Layout.{IsPen, Layout}
use Rattle.nl_commit.specs.Volume.{Lists, kept_by}

-- nothing differs from the latest checkpoint, which has the paths of the current tree, and no mount number
-- was given
pub record IsAtRest (l : Lists) : Type 0 where
  pub clean : l.dirty ≡ false
  pub unchanged : l.current.became ≡ []
  pub none_freed : l.current.freed ≡ []
  pub unmarked : l.current.mark ≡ first_inode
  pub names : l.current.names + 1 ≡ l.table.latest.inodes
  pub unmounted : l.mounts ≡ []
  pub none_given : l.given ≡ 0

-- a checkpoint whose shape, tree and periods were checked, and that has a number
pub record IsChecked (content : Content) (c : Checkpoint) : Type 0 where
  pub positive : 1 ≤ c.number
  -- of its file of inodes
  pub size : ℕ
  pub meets : MeetsAll content c.number (root_of (checkpoint_root c)) size c.inodes

-- The segments, logs and numbers are those of a store, and the periods end by the latest checkpoint.
-- Checkpoints rise, and each was checked. Nothing else is there.
pub record IsOpened (l : Layout) : Type 0 where
  pub store : IsStore l.store
  pub periods : IsBounded (content_in l.store) l.lists.table.latest.number
  pub table : IsTable l.lists.table
  pub checked : All (IsChecked (content_in l.store)) (kept_by l.lists)
  pub rest : IsAtRest l.lists

-- what is opened of an image that meets all conditions is a pen
abbrev pub OpenedImagesArePens : Type 0
OpenedImagesArePens = (l : Layout) → IsOpened l → IsPen l

-- a checkpoint that was checked has an inode in use, the root's
abbrev pub CheckedCheckpointsHaveInodes : Type 0
CheckedCheckpointsHaveInodes = (content : Content) (c : Checkpoint) → IsChecked content c → 1 ≤ c.inodes

-- ---- opening

-- the bytes are an image and the device failed, or they are none, or there was no memory
abbrev pub IsOpenRefusal : List ℕ → VolError → Type 0
IsOpenRefusal bytes e = ((e ≡ Fault) × AreImage bytes) ⊎ IsRefusal bytes e

-- the store has these segments and entries, and what the logs hold
pub record IsRestoredStore (segments : Segments) (logs : Restored) (numbers : List (Option DatEntry))
    (store : Store) : Type 0 where
  pub segments_are : store.segments ≡ segments
  pub shown : entries_shown store ≡ numbers
  pub held : (b : ℕ) → payload_in store b ≡ held_in logs.payload b
  pub stored : (b : ℕ) (page : List ℕ) → page_in logs.pages b ≡ Some page → device_in store b ≡ Some page
