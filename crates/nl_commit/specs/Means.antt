-- How what a pen holds stands for a world.
use Rattle.std.specs.Prelude.{◌≡◌, ℕ, length, map}
use Rattle.std.specs.List.{AllZip}
use Rattle.nl_types.specs.declared.event.Ask.{Ask}
use Rattle.nl_types.specs.declared.event.Event.{Event}
use Rattle.nl_types.specs.Plain.Calls.{IsReadReply, and_then, reply_to}
use Rattle.nl_types.specs.Plain.Trees.{Tree}
use Rattle.nl_types.specs.Plain.Worlds.{World, Copy, IsWorld, Reply, kept_copy}
use Rattle.nl_types.specs.Plain.Runs.{AllowedRefusals, Step, memory_alone}
use Rattle.nl_types.specs.Blocks.Roots.{Pages}
use Rattle.nl_layout.specs.Root.{root_of}
use Rattle.nl_layout.specs.declared.root.Root.{Root}
use Rattle.nl_tree.specs.Became.{Current}
use Rattle.nl_tree.specs.CurrentTrees.{StandsOver}
use Rattle.nl_tree.specs.Held.{Holding}
use Rattle.nl_tree.specs.Reading.{HoldingMeans}
use Rattle.nl_files.specs.CheckpointTrees.{HoldsTree}
use Rattle.nl_cpfile.specs.Tables.{checkpoint_root}
use Rattle.nl_cpfile.specs.declared.checkpoint.Checkpoint.{Checkpoint}
use Rattle.nl_commit.specs.Volume.{Lists, kept_by, latest_root, mount_of}

-- the root of a checkpoint stands for the tree
pub record RootMeans (pages : Pages) (root : Root) (tree : Tree) : Type 0 where
  pub held : Holding
  pub holds : HoldsTree pages (root_of root) held
  pub means : HoldingMeans held tree

-- the current tree over the checkpoint of a root stands for the tree
pub record CurrentMeans (pages : Pages) (root : Root) (current : Current) (tree : Tree) : Type 0 where
  pub base : Holding
  pub holds : HoldsTree pages (root_of root) base
  pub stands : StandsOver current base tree

pub record CopyMeans (pages : Pages) (c : Checkpoint) (copy : ℕ × Copy) : Type 0 where
  pub number : copy.0 ≡ c.number
  pub mode : copy.1.mode ≡ c.mode
  pub minor : copy.1.minor ≡ c.minor
  pub stamp : copy.1.stamp ≡ c.stamp
  pub inodes : c.inodes ≡ length copy.1.tree
  pub tree : RootMeans pages (checkpoint_root c) copy.1.tree

pub record Means (pages : Pages) (l : Lists) (w : World) : Type 0 where
  pub world : IsWorld w
  pub tree : CurrentMeans pages (latest_root l) l.current w.tree
  pub dirty : w.dirty ≡ l.dirty
  pub copies : AllZip (CopyMeans pages) (kept_by l) w.copies
  pub mounts : w.mounts ≡ map mount_of l.mounts
  pub given : w.given ≡ l.given

-- ---- what an event does to the world

-- From a world the event leads to one that is meant then. It is done whole, or refused by what is allowed in
-- its place.
pub record StepsWorld (allowed : AllowedRefusals) (cleaned : Reply) (w : World) (event : Event)
    (reply : Reply)
    (pages : Pages) (new : Lists) : Type 0 where
  pub after : World
  pub means : Means pages new after
  pub step : Step allowed cleaned w event reply after

-- an event that writes nothing, to which memory alone may be refused, leads on from each world that is meant
abbrev pub StepsWorldsOver : Pages → Lists → Event → Reply → Lists → Type 0
StepsWorldsOver pages old event reply new =
    (cleaned : Reply) (w : World) → Means pages old w
    → StepsWorld memory_alone cleaned w event reply pages new

-- ---- a read of a kept checkpoint

-- what the tree of a number's copy answers
abbrev pub copy_read : World → (n : ℕ) → Ask → Reply
copy_read w n a = and_then (kept_copy w n) (λ copy. reply_to copy.tree a)

-- that is answered in each world that is meant, or memory lacks where the read may take any
abbrev pub ReadsCopyOver : Pages → Lists → (n : ℕ) → Ask → Reply → Type 0
ReadsCopyOver pages l n a reply = (w : World) → Means pages l w → IsReadReply a reply (copy_read w n a)
