-- Trees that are one in two checkpoints of a pen.
use Rattle.std.specs.Prelude.{◌≡◌, ℕ, Some}
use Rattle.nl_types.specs.Plain.Worlds.{World, Copy, copy_at}
use Rattle.nl_commit.specs.Layout.{Layout, MeansWorld}
use Rattle.nl_events.specs.SameTrees.{IsOneRoot}

-- both checkpoints are kept in a pen, and have one root
abbrev pub HaveOneRoot : Layout → (old new : ℕ) → Type 0
HaveOneRoot l old new = IsOneRoot l.lists.table old new

-- ---- in the world

-- both checkpoints are kept, and their trees are equal
abbrev pub HaveSameTree : (old new : ℕ) → World → Type 0
HaveSameTree old new w =
    (one : Copy) × (other : Copy) × (copy_at w old ≡ Some one) × (copy_at w new ≡ Some other)
    × (one.tree ≡ other.tree)

-- they are in each world that the pen means
abbrev pub HaveOneTree : Layout → (old new : ℕ) → Type 0
HaveOneTree l old new = (w : World) → MeansWorld l w → HaveSameTree old new w
