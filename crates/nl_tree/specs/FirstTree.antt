-- The tree of a new volume.
use Rattle.std.specs.Prelude.{ℕ, List, [], ◌∷◌, None}
use Rattle.nl_types.specs.Plain.Limits.{first_inode}
use Rattle.nl_tree.specs.Held.{Holding}
use Rattle.nl_tree.specs.Became.{Became, BecameDirectory, Current, holding_over}

-- no inode is in use
abbrev pub nothing_held : Holding
nothing_held i = None

-- the root directory, without names
abbrev pub root_directory_alone : List (ℕ × Became)
root_directory_alone = (2, BecameDirectory []) ∷ []

-- what its inodes hold
abbrev pub first_holding : Holding
first_holding = holding_over root_directory_alone nothing_held

-- the current tree
abbrev pub first_tree : Current
first_tree = record { became = root_directory_alone; freed = []; mark = first_inode; names = 0 }
