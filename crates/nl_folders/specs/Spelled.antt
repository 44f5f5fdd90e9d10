-- The bytes of paths.
use Rattle.std.specs.Prelude.{ℕ, ◌≤◌, List, [], ◌∷◌, ◌++◌, length}
use Rattle.nl_types.specs.Plain.Characters.{slash}
use Rattle.nl_types.specs.Plain.Limits.{path_length_limit}
use Rattle.nl_types.specs.Plain.Paths.{Path}
use Rattle.nl_types.specs.Plain.Trees.{Tree, IsTree, IsIn}

-- each name behind a slash
abbrev pub joined : Path → List ℕ
joined [] = []
joined (name ∷ names) = (slash ∷ name) ++ joined names

-- the bytes by which a call is given a path
abbrev pub spelling : Path → List ℕ
spelling [] = slash ∷ []
spelling (name ∷ names) = joined (name ∷ names)

-- a tree each path of which calls can name
pub record IsNameable (tree : Tree) : Type 0 where
  pub is_tree : IsTree tree
  pub spelled : (path : Path) → IsIn tree path → length (spelling path) ≤ path_length_limit
