-- Trees that are one in two checkpoints, as their roots tell.
use Rattle.std.specs.Prelude.{◌≡◌, ℕ, Some}
use Rattle.nl_cpfile.specs.Tables.{Table, checkpoint_root, kept_at}
use Rattle.nl_cpfile.specs.declared.checkpoint.Checkpoint.{Checkpoint}

-- both checkpoints are kept, and have one root
abbrev pub IsOneRoot : Table → (old new : ℕ) → Type 0
IsOneRoot kept old new =
    (one : Checkpoint) × (other : Checkpoint) × (kept_at old kept ≡ Some one) × (kept_at new kept ≡ Some other)
    × (checkpoint_root one ≡ checkpoint_root other)
