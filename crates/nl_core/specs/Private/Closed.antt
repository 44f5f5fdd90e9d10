-- What the image of a pen needs of its checkpoints.
use Rattle.std.specs.Prelude.{List, All}
use Rattle.std.specs.List.{AllZip}
use Rattle.nl_types.specs.Blocks.Roots.{Pages}
use Rattle.nl_layout.specs.Root.{root_of}
use Rattle.nl_layout.specs.declared.checkpoint_entry.CheckpointEntry.{CheckpointEntry}
use Rattle.nl_cpfile.specs.Tables.{checkpoint_root}
use Rattle.nl_cpfile.specs.declared.checkpoint.Checkpoint.{Checkpoint}
use Rattle.nl_blocktree.specs.FileShapes.{StandsAlone}
use Rattle.nl_image.specs.StoreImages.{IsSizedEntry}

-- the file of inodes has its shape, and no number at two places, so that it has a size
abbrev pub HasSize : Pages → Checkpoint → Type 0
HasSize pages c = StandsAlone pages (root_of (checkpoint_root c))

abbrev pub HaveSizes : Pages → List Checkpoint → Type 0
HaveSizes pages kept = All (HasSize pages) kept

-- the entries are those of the checkpoints, with the sizes
abbrev pub AreSized : Pages → List Checkpoint → List CheckpointEntry → Type 0
AreSized pages kept entries = AllZip (IsSizedEntry pages) kept entries
