-- What is settled of one tree over one checkpoint.
use Rattle.std.specs.Prelude.{◌≡◌, ℕ, List, [], length}
use Rattle.nl_types.specs.Blocks.Entries.{Content}
use Rattle.nl_types.specs.Blocks.Roots.{Root, pages_of}
use Rattle.nl_vstore.specs.Batches.{Changes}
use Rattle.nl_tree.specs.Became.{Became}
use Rattle.nl_tree.specs.Held.{Holding, IsHolding}
use Rattle.nl_files.specs.CheckpointRoots.{IsCheckpointRoot, Stores}
use Rattle.nl_files.specs.Settles.{Settles}

-- it writes as many blocks whichever way it is settled, and gives one root
abbrev pub SettlingsAreAlike : Type 0
SettlingsAreAlike =
    (content : Content) (root new other : Root) (became : List (ℕ × Became)) (held : Holding)
    (one two : Changes) →
    IsCheckpointRoot content root → IsHolding held →
    Settles content root new became held one → Settles content root other became held two →
    (length one.births ≡ length two.births) × (other ≡ new)

-- where nothing differs from the checkpoint, nothing is written, and the root stays
abbrev pub CleanTreesWriteNothing : Type 0
CleanTreesWriteNothing = (content : Content) (root new : Root) (held : Holding) (batch : Changes) →
    IsCheckpointRoot content root → IsHolding held → Stores (pages_of content) root held →
    Settles content root new [] held batch → (batch.births ≡ []) × (new ≡ root)
