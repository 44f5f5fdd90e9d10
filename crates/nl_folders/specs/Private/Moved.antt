-- A part that stands alike in two trees, at a path that each of them has alone.
use Rattle.std.specs.Prelude.{ℕ, ◌+◌, ◌<◌, ◌≤◌, IsTrue, length, drop}
use Rattle.std.specs.FinMap.{is_sorted}
use Rattle.nl_types.specs.declared.reply.Object.{Object}
use Rattle.nl_types.specs.Plain.Paths.{Path, path_cmp}
use Rattle.nl_types.specs.Plain.Trees.{Tree}
use Rattle.nl_folders.specs.declared.sides.Relocation.{Relocation}
use Rattle.nl_folders.specs.Private.Sides.{IsMovable}

-- an entry with the front of its path cut off
abbrev pub cut : ℕ → Path × Object → Path × Object
cut count e = (drop count e.0, e.1)

pub record IsMoved (present wanted : Tree) (m : Relocation) : Type 0 where
  pub from : m.from + m.count ≤ length present
  pub to : m.to + m.count ≤ length wanted
  pub some : 0 < m.count
  pub movable : IsTrue (is_sorted path_cmp present) → IsTrue (is_sorted path_cmp wanted)
      → IsMovable present wanted m
