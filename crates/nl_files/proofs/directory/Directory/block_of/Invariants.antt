use Rattle.std.proofs.Common.{◌-◌, ◌/◌}
use Rattle.nl_types.specs.Blocks.Roots.{page_at}
use Rattle.nl_layout.specs.Root.{root_of}
use Rattle.nl_files.proofs.Directories.{IsBetween}
use Rattle.nl_files.proofs.directory.Directory.block_of.Given as goal

abbrev pub invariant-loop-low : goal.invariant-loop-low
invariant-loop-low g l =
    IsBetween l.name (page_at (g.V.VRead.pages l.self.store.now) (root_of l.self.root))
    (l.self.size / 1024) l.low l.high

abbrev pub decreases-loop-low : goal.decreases-loop-low
decreases-loop-low g l = l.high - l.low
