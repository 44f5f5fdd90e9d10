-- From one checkpoint to the next.
use Rattle.std.specs.Prelude.{◌≡◌, ◌≤◌, ℕ, List, [], length}
use Rattle.nl_types.specs.Plain.Limits.{inode_file_number}
use Rattle.nl_types.specs.Blocks.Entries.{Content}
use Rattle.nl_types.specs.Blocks.Roots.{Pages, Root, Empty}
use Rattle.nl_types.specs.Blocks.Lifetimes.{Allowed, IsLedger, Ledger, Makes, blank, ledger_after, numbers_at}
use Rattle.nl_layout.specs.Root.{root_of}
use Rattle.nl_layout.specs.declared.root.Root.{Root as CodeRoot}
use Rattle.nl_vstore.specs.Batches.{Changes, CanBeTaken, TakeLowestFree}
use Rattle.nl_blocktree.specs.Checkpoints.{WritesWhatDiffers, numbers_of, ledger_pages}
use Rattle.nl_tree.specs.Held.{Holding, IsHolding}
use Rattle.nl_tree.specs.Became.{Became}
use Rattle.nl_tree.specs.FirstTree.{first_holding, nothing_held, root_directory_alone}
use Rattle.nl_files.specs.CheckpointRoots.{IsCheckpointRoot, IsTreeSound, Stores, roots_at}
use Rattle.nl_files.specs.Settles.{IsCurrent, Settles}

-- a root stands for one holding at most
abbrev pub RootsHoldOne : Type 0
RootsHoldOne = (pages : Pages) (root : Root) (one other : Holding) →
    Stores pages root one → Stores pages root other → one ≡ other

-- the latest checkpoint has this root: its numbers are the places of the root's files, and these hold what
-- inodes hold
pub record IsLatest (ledger : Ledger) (root : Root) (held : Holding) : Type 0 where
  pub numbers : numbers_at ledger ledger.latest
      ≡ numbers_of (ledger_pages ledger) (roots_at (ledger_pages ledger) root)
  pub sound : IsTreeSound (ledger_pages ledger) root
  pub stores : Stores (ledger_pages ledger) root held

-- the ledger once a batch is written
abbrev pub ledger_with : Changes → Ledger → Ledger
ledger_with batch ledger = ledger_after (Makes batch.births batch.ends) ledger

-- the batch may be written, and the checkpoint that it makes has this root, and holds this
pub record HoldsSettled (ledger : Ledger) (new : Root) (held : Holding) (batch : Changes) : Type 0 where
  pub allowed : Allowed (Makes batch.births batch.ends) ledger
  pub is_ledger : IsLedger (ledger_with batch ledger)
  pub is_latest : IsLatest (ledger_with batch ledger) new held

-- where the current tree is settled and its batch written, the next checkpoint has the new root, and holds
-- that tree
abbrev pub SettledCheckpointsFollow : Type 0
SettledCheckpointsFollow =
    (room : ℕ) (ledger : Ledger) (root new : Root) (base held : Holding) (became : List (ℕ × Became))
    (batch : Changes) →
    IsLedger ledger → IsLatest ledger root base →
    Settles ledger.content root new became held batch → CanBeTaken room ledger.content batch →
    HoldsSettled ledger new held batch

-- the latest checkpoint can be settled over
abbrev pub LatestCheckpointsHold : Type 0
LatestCheckpointsHold = (ledger : Ledger) (root : Root) (held : Holding) →
    IsLedger ledger → IsLatest ledger root held → IsHolding held → IsCheckpointRoot ledger.content root

-- a checkpoint writes exactly what differs, over all its files, the file of inodes last
abbrev pub SettledCheckpointsWriteWhatDiffers : Type 0
SettledCheckpointsWriteWhatDiffers =
    (room : ℕ) (ledger : Ledger) (root new : Root) (base held : Holding) (became : List (ℕ × Became))
    (batch : Changes) →
    IsLedger ledger → IsLatest ledger root base →
    Settles ledger.content root new became held batch → CanBeTaken room ledger.content batch →
    WritesWhatDiffers (ledger_pages ledger) (ledger_pages (ledger_with batch ledger))
    (roots_at (ledger_pages ledger) root)
    (roots_at (ledger_pages (ledger_with batch ledger)) new) inode_file_number batch.births batch.ends

-- of all births of a settled tree, in the order of the payload, each has the lowest number that is neither in
-- use nor given to one before it
abbrev pub SettledNumbersAreLowest : Type 0
SettledNumbersAreLowest =
    (content : Content) (root new : Root) (became : List (ℕ × Became)) (held : Holding) (batch : Changes) →
    Settles content root new became held batch → TakeLowestFree content [] batch.births

-- ---- the first checkpoint

-- before it there is a checkpoint without files, over which the tree of a new volume can be settled
pub record FirstCheckpointsHold : Type 0 where
  pub latest : IsLatest blank Empty nothing_held
  pub checkpoint : IsCheckpointRoot blank.content Empty
  pub current : IsCurrent blank.content Empty root_directory_alone nothing_held first_holding

-- the first checkpoint writes a block of inodes and its node
abbrev pub FirstCheckpointsAreSmall : Type 0
FirstCheckpointsAreSmall = (room : ℕ) (new : CodeRoot) (batch : Changes) →
    Settles blank.content Empty (root_of new) root_directory_alone first_holding batch →
    CanBeTaken room blank.content batch → length batch.births ≤ 2
