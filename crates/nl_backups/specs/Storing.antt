-- A tree that is stored in an image, and what is told of it.
use Rattle.std.specs.Prelude.{ℕ, List}
use Rattle.nl_types.specs.Plain.Trees.{Tree}
use Rattle.nl_keep.specs.declared.storing.Stored.{Stored}
use Rattle.nl_keep.specs.Made.{AreMadeBy}
use Rattle.nl_keep_pen.specs.Images.{HasCurrent, StoresInImage}

-- The tree is stored at the moment. The snapshot that was made is told, which tree was the current one
-- before, and how many calls made the one of the other, by how many bytes.
pub record IsStored (moment : ℕ) (tree : Tree) (told : Stored) (old new : List ℕ) : Type 0 where
  pub stores : StoresInImage moment told.number tree old new
  pub earlier : HasCurrent told.earlier old
  pub made : AreMadeBy told.earlier tree told.calls told.bytes
