-- What is kept of a folder of the host beside pins, and what is shown of it.
use Rattle.std.specs.Prelude.{◌≡◌, ℕ, List, [], Option}
use Rattle.nl_types.specs.Plain.Trees.{Tree, IsTree}
use Rattle.nl_manifests.specs.HostTrees.{HostTree, Shows}
use Rattle.nl_pins.specs.Trees.{with_pins, without_pins}
use Rattle.nl_shown.specs.Parts.{part_of}

-- The tree shows the folder, but for what has the name of the file of pins; and it has these pins.
pub record KeepsFolder (pins : Option (List ℕ)) (folder : HostTree) (tree : Tree) : Type 0 where
  pub sealed : Tree
  pub shows : Shows sealed (without_pins folder)
  -- nothing of the folder is in the place of pins
  pub apart : without_pins sealed ≡ sealed
  pub beside : tree ≡ with_pins pins sealed
  pub found : without_pins tree ≡ sealed

-- what the tree shows beside its pins
abbrev pub ShowsFolder : Tree → HostTree → Type 0
ShowsFolder tree shown = Shows (without_pins tree) shown

-- what is shown of a tree that keeps a folder is that folder
abbrev pub KeptFoldersAreShown : Type 0
KeptFoldersAreShown =
    (pins : Option (List ℕ)) (folder shown : HostTree) (tree : Tree)
    → KeepsFolder pins folder tree → ShowsFolder tree shown → shown ≡ without_pins folder

-- what a tree shows at and below the root is all that it shows
abbrev pub RootsHaveAll : Type 0
RootsHaveAll =
    (tree : Tree) (shown : HostTree) → IsTree tree → ShowsFolder tree shown → part_of [] shown ≡ shown
