-- How a mount stands for a port.
use Rattle.std.specs.Prelude.{◌≡◌, ◌≢◌, Option, None, Some}
use Rattle.nl_commit.specs.Commits.{IsHistory, shown_after}
use Rattle.nl_commit.specs.Shown.{mounted_on}
use Rattle.nl_publish.specs.Histories.{Known}
use Rattle.nl_publish.specs.Mounts.{Claim}
use Rattle.nl_mounts.specs.declared.looks.MountedTree.{MountedTree}
use Rattle.nl_mounts.specs.declared.standing.Standing.{Standing}
use Rattle.nl_mounts.specs.declared.standing.Standing.TheVariants as standing

abbrev pub standing_of : Option MountedTree → Standing
standing_of None = standing.GivenBack
standing_of (Some tree) = standing.Mounted

-- the mount is another volume's; or the port was given no state that is as new as what it has seen; or the
-- state that it entered, of a history that goes on from that, lacks the mount, or shows its checkpoint
pub data StandsAs (m : Claim) (old new : Known) (Ungiven : Type 0) (s : Standing) : Type 0 where
  OfAnother : m.told.volume ≢ old.volume → new ≡ old → s ≡ standing.Foreign → StandsAs m old new Ungiven s
  NotGiven : m.told.volume ≡ old.volume → Ungiven → new ≡ old → s ≡ standing.Ended
      → StandsAs m old new Ungiven s
  Lacking : m.told.volume ≡ old.volume → IsHistory new.commits
      → mounted_on (shown_after new.commits) m.number ≡ None → s ≡ standing.GivenBack
      → StandsAs m old new Ungiven s
  Showing : m.told.volume ≡ old.volume → IsHistory new.commits
      → mounted_on (shown_after new.commits) m.number ≡ Some m.checkpoint → s ≡ standing.Mounted
      → StandsAs m old new Ungiven s
