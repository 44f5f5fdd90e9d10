-- When bytes that are spelled of a store and of entries are its image.
use Rattle.std.proofs.Common.{ℕ, List, ◌∙◌}
use Rattle.std.specs.List.{AllZip}
use Rattle.std.proofs.lemmas.Slice.Zip.{AllZip-long}
use Rattle.nl_types.specs.Blocks.Roots.{pages_of}
use Rattle.nl_layout.specs.declared.checkpoint_entry.CheckpointEntry.{CheckpointEntry}
use Rattle.nl_vstore.specs.Stores.{Store, content_in}
use Rattle.nl_cpfile.specs.declared.checkpoint.Checkpoint.{Checkpoint}
use Rattle.nl_image.specs.StoreImages.{IsImageOf, IsSizedEntry, IsSpelledOf}

-- the entries are those of the kept checkpoints
pub spelled-image : (store : Store) (kept : List Checkpoint) (entries : List CheckpointEntry) (bytes : List ℕ)
    → AllZip (IsSizedEntry (pages_of (content_in store))) kept entries
    → IsSpelledOf store entries bytes → IsImageOf store kept bytes
spelled-image store kept entries bytes sized is =
    record {
      shape = is.shape;
      entries = entries;
      blocks = is.blocks;
      are = record {
        shape = is.divided;
        count = is.count ∙ AllZip-long _ kept entries sized;
        sized = sized;
      };
      blocks_are = is.blocks_are;
      fit = is.fit;
      spelled = is.spelled;
    }
