-- A checkpoint that is not published yet.
use Rattle.std.specs.Prelude.{◌≡◌, ℕ, ◌+◌, ◌<◌, ◌≤◌}
use Rattle.nl_types.specs.declared.error.VolError.{VolError}
use Rattle.nl_types.specs.declared.error.VolError.TheVariants.{Memory, NumbersSpent}
use Rattle.nl_types.specs.declared.event.Mode.{Mode}
use Rattle.nl_types.specs.Blocks.Entries.{Content}
use Rattle.nl_types.specs.Plain.Limits.{checkpoint_number_limit, path_limit}
use Rattle.nl_layout.specs.Root.{root_of}
use Rattle.nl_layout.specs.declared.root.Root.{Root}
use Rattle.nl_vstore.specs.Batches.{Changes}
use Rattle.nl_vstore.specs.Stores.{Store, content_in}
use Rattle.nl_blocktree.specs.Numbering.{CanTake}
use Rattle.nl_tree.specs.Held.{Holding}
use Rattle.nl_files.specs.Settles.{IsCurrent, Settles}
use Rattle.nl_files.specs.CheckpointRoots.{IsCheckpointRoot}
use Rattle.nl_cpfile.specs.Tables.{checkpoint_root}
use Rattle.nl_commit.specs.Volume.{Lists, latest_root, next_checkpoint}
use Rattle.nl_commit.specs.declared.draft.Draft.{Draft}

-- there is a number for one more checkpoint
abbrev pub HasNextNumber : Lists → Type 0
HasNextNumber l = l.table.latest.number + 1 < checkpoint_number_limit

-- the current tree is one over the latest checkpoint, and holds this
abbrev pub HoldsNow : Content → Lists → Holding → Holding → Type 0
HoldsNow content l base held = IsCurrent content (root_of (latest_root l)) l.current.became base held

-- the latest checkpoint can be settled over
abbrev pub CanBeDrafted : Content → Lists → Type 0
CanBeDrafted content l =
    IsCheckpointRoot content (root_of (latest_root l)) × (base : Holding) × (held : Holding)
    × HoldsNow content l base held

-- the paths of the current tree can be counted
abbrev pub HasFewNames : Lists → Type 0
HasFewNames l = l.current.names ≤ path_limit

-- the batch takes what the current tree holds to a checkpoint of this root
abbrev pub SettlesNow : Content → Lists → Root → Holding → Changes → Type 0
SettlesNow content l root held batch =
    Settles content (root_of (latest_root l)) (root_of root) l.current.became held batch

-- The draft of the lists' next checkpoint, for which there is a number. The store can be given its batch.
pub record IsNextDraft (store : Store) (mode : Mode) (moment : ℕ) (l : Lists) (draft : Draft) : Type 0 where
  pub left : HasNextNumber l
  pub checkpoint : draft.checkpoint ≡ next_checkpoint mode moment (checkpoint_root draft.checkpoint) l
  pub settles : (base held : Holding) → HoldsNow (content_in store) l base held
      → SettlesNow (content_in store) l (checkpoint_root draft.checkpoint) held draft.batch
  pub fits : CanTake store draft.batch

-- Why no draft is made: numbers are judged first. Space is no reason, as a batch may hold numbers above those
-- that there are.
abbrev pub IsDraftRefusal : Lists → VolError → Type 0
IsDraftRefusal l NumbersSpent = checkpoint_number_limit ≤ l.table.latest.number + 1
IsDraftRefusal l Memory = HasNextNumber l
IsDraftRefusal l e = ⊥
