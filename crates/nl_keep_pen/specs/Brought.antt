-- Checkpoints of another volume that come into one.
use Rattle.std.specs.Prelude.{◌≡◌, ℕ, if◌then◌else◌, List, [], ◌∷◌}
use Rattle.nl_types.specs.declared.event.Mode.{Mode}
use Rattle.nl_types.specs.Plain.Rows.{is_snapshot}
use Rattle.nl_types.specs.Plain.Trees.{Tree}
use Rattle.nl_types.specs.Plain.Worlds.{World}
use Rattle.nl_keep.specs.Forgotten.{MakesAllPlain}
use Rattle.nl_keep_pen.specs.Images.{InImage, SameBut, StoresPrepared}

-- one that comes: the number that it has here, its tree, its date, and whether it is to be a snapshot
pub record Arrival : Type 0 where
  pub number : ℕ
  pub tree : Tree
  pub stamp : ℕ
  pub mode : Mode

-- it is stored as a snapshot of its date; the volume may have been closed and opened before
pub record Arrives (one : Arrival) (old new : World) : Type 0 where
  pub before : World
  pub same : SameBut old before
  pub stores : StoresPrepared one.stamp one.number one.tree before new

-- one after another
abbrev pub Arrive : List Arrival → (old new : World) → Type 0
Arrive [] old new = new ≡ old
Arrive (one ∷ all) old new = (mid : World) × Arrives one old mid × Arrive all mid new

-- the numbers of those that are to be plain
abbrev pub plain_numbers : List Arrival → List ℕ
plain_numbers [] = []
plain_numbers (one ∷ all) =
    if is_snapshot one.mode then plain_numbers all else one.number ∷ plain_numbers all

-- all come, and then those are made plain that are to be
pub record AreBrought (all : List Arrival) (old new : World) : Type 0 where
  pub stored : World
  pub arrive : Arrive all old stored
  pub before : World
  pub same : SameBut stored before
  pub plain : MakesAllPlain (plain_numbers all) before new

abbrev pub BringsIntoImage : List Arrival → (old new : List ℕ) → Type 0
BringsIntoImage all old new = InImage (AreBrought all) old new
