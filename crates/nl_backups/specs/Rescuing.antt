-- What is rescued of a checkpoint.
use Rattle.std.specs.Prelude.{◌≡◌, [], Option, None, Some}
use Rattle.nl_types.specs.Plain.Trees.{Tree}
use Rattle.nl_shown.specs.Kept.{ShowsFolder}
use Rattle.nl_backups.specs.declared.rescuing.Rescued.{Rescued}

-- what `restore` lays out of such a tree, and nothing is lost
pub record ShowsWhole (tree : Tree) (r : Rescued) : Type 0 where
  pub shows : ShowsFolder tree r.opened.tree
  pub none_lost : r.lost ≡ []

-- it is rescued, and whole
abbrev pub RescuesWhole : Tree → Option Rescued → Type 0
RescuesWhole tree None = ⊥
RescuesWhole tree (Some rescued) = ShowsWhole tree rescued
