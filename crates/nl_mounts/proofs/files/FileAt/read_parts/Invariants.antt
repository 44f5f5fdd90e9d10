use Rattle.std.proofs.Common.{◌≡◌, ◌+◌, ◌-◌, ◌<◌, ◌≤◌, ◌^◌, length}
use Rattle.nl_types.specs.Plain.Trees.{Tree}
use Rattle.nl_commit.specs.Commits.{shown_after}
use Rattle.nl_publish.specs.Told.{TreeOn}
use Rattle.nl_publish.specs.Reading.{IsLater}
use Rattle.nl_mounts.specs.OpenFiles.{IsReadUpTo}
use Rattle.nl_mounts.specs.Ports.{seeing}
use Rattle.nl_mounts.proofs.files.FileAt.read_parts.Given as goal

abbrev pub invariant-loop-count : goal.invariant-loop-count
invariant-loop-count g l = record {
  size : length l.into ≡ length l.fn.into;
  within : l.count ≤ length l.into;
  fits : l.offset + l.count < 2 ^ 64;
  later : IsLater l.fn.port.known l.port.known;
  kept : l.port ≡ seeing l.fn.port l.port.known;
  reads : (t : Tree) → TreeOn (shown_after l.self.mount.told.commits) l.self.mount.checkpoint t
      → IsReadUpTo t l.self.path l.offset l.fn.into l.count l.into;
}

abbrev pub decreases-loop-count : goal.decreases-loop-count
decreases-loop-count g l = length l.into - l.count
