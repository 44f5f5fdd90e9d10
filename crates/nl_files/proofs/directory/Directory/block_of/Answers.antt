use Rattle.std.proofs.Common.{arith}
use Rattle.nl_files.proofs.Directories.{between-higher}
use Rattle.nl_files.proofs.directory.Directory.block_of.Goals as goal

pub loop-low-preserved : goal.loop-low-preserved
loop-low-preserved g c =
    between-higher _ _ _ _ _ _ c.loop-low.invariant (omega arith) (omega arith) c.if-starts_behind.ensures
