-- How two trees of the host are gone through side by side.
use Rattle.std.specs.Prelude.{◌≡◌, ◌+◌, ◌≤◌, ◌++◌, length, drop, Option, None, Some}
use Rattle.nl_manifests.specs.declared.comparing.Passed.{Passed}
use Rattle.nl_manifests.specs.HostDifferences.{HostDifferences, Rewrites, differences_by}
use Rattle.nl_manifests.specs.HostTrees.{HostTree}

-- so many entries of each tree are passed, and what differs among them is told behind `before`
pub record TellsFirst (rewrites : Rewrites) (old new : HostTree) (before after : HostDifferences) (passed : Passed)
    : Type 0 where
  pub in_old : passed.in_old ≤ length old
  pub in_new : passed.in_new ≤ length new
  pub some : 1 ≤ passed.in_old + passed.in_new
  pub told : after ++ differences_by rewrites (drop passed.in_old old) (drop passed.in_new new)
      ≡ before ++ differences_by rewrites old new

-- nothing is left of both trees, or entries are passed
abbrev pub TellsNext : Rewrites → HostTree → HostTree → HostDifferences → HostDifferences → Option Passed → Type 0
TellsNext rewrites old new before after None = before ++ differences_by rewrites old new ≡ after
TellsNext rewrites old new before after (Some passed) = TellsFirst rewrites old new before after passed
