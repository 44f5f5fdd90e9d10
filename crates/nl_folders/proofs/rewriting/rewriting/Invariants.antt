use Rattle.std.proofs.Common.{◌≤◌, ◌-◌, length}
use Rattle.nl_folders.proofs.FileBytes.{IsWritten}
use Rattle.nl_folders.specs.Blocks.{blocks_in}
use Rattle.nl_folders.proofs.rewriting.rewriting.Given as goal

abbrev pub invariant-loop-run : goal.invariant-loop-run
invariant-loop-run l =
    (l.done ≤ blocks_in (length l.new)) × IsWritten l.path l.old l.new l.calls l.done

abbrev pub decreases-loop-run : goal.decreases-loop-run
decreases-loop-run l = blocks_in (length l.new) - l.done
