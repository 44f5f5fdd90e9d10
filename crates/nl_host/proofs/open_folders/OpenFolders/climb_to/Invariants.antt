use Rattle.std.proofs.Common.{◌≡◌, ◌-◌, length, take}
use Rattle.nl_host.specs.Trails.{names}
use Rattle.nl_host.proofs.open_folders.OpenFolders.climb_to.Given as goal

abbrev pub invariant-loop : goal.invariant-loop
invariant-loop g l =
    names l.self.trail ≡ take (length (names l.fn.self.trail) - l.counter) (names l.fn.self.trail)
