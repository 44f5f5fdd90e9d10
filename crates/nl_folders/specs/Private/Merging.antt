-- How two trees are gone through side by side.
use Rattle.std.specs.Prelude.{◌≡◌, ◌+◌, ◌≤◌, ◌++◌, length, drop, Option, None, Some}
use Rattle.nl_types.specs.Plain.Trees.{Tree}
use Rattle.nl_folders.specs.declared.differences.Passed.{Passed}
use Rattle.nl_folders.specs.Differences.{Differences, differences}

-- so many entries of each tree are passed, and what differs among them is told behind `before`
pub record TellsFirst (old new : Tree) (before after : Differences) (passed : Passed) : Type 0 where
  pub in_old : passed.in_old ≤ length old
  pub in_new : passed.in_new ≤ length new
  pub some : 1 ≤ passed.in_old + passed.in_new
  pub told : after ++ differences (drop passed.in_old old) (drop passed.in_new new) ≡ before ++ differences old new

-- nothing is left of both trees, or entries are passed
abbrev pub TellsNext : Tree → Tree → Differences → Differences → Option Passed → Type 0
TellsNext old new before after None = before ++ differences old new ≡ after
TellsNext old new before after (Some passed) = TellsFirst old new before after passed
