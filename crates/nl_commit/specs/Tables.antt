-- What contracts see of the pen's tables.
use Rattle.std.specs.Prelude.{ℕ, false, []}
use Rattle.nl_types.specs.declared.event.Mode.TheVariants.{Plain}
use Rattle.nl_layout.specs.declared.root.Root.TheVariants.{Empty}
use Rattle.nl_tree.specs.FirstTree.{first_tree}
use Rattle.nl_cpfile.specs.declared.checkpoint.Checkpoint.{Checkpoint}
use Rattle.nl_commit.specs.Volume.{Lists}

pub record RoomyLists : Type 0 where
  pub lists : Lists
  -- for how many more checkpoints there is room
  pub room : ℕ

-- a checkpoint 0, without files
abbrev pub blank_checkpoint : Checkpoint
blank_checkpoint = record { number = 0; mode = Plain; minor = false; stamp = 0; root = Empty; inodes = 0 }

-- before a volume is formatted: the root alone, over that checkpoint
abbrev pub blank_lists : Lists
blank_lists = record {
  current = first_tree;
  dirty = false;
  table = record { earlier = []; latest = blank_checkpoint };
  mounts = [];
  given = 0;
}
