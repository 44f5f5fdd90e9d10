use Rattle.std.proofs.Common.{length}
use Rattle.nl_folders.proofs.paths.+append_shared.Given as goal

abbrev pub decreases-append_shared : goal.decreases-append_shared
decreases-append_shared l = length l.names.now
