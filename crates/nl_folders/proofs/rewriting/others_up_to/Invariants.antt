use Rattle.std.proofs.Common.{false}
use Rattle.nl_folders.specs.Private.Rewriting.{BlocksStand}
use Rattle.nl_folders.proofs.rewriting.others_up_to.Given as goal

abbrev pub invariant-loop-block : goal.invariant-loop-block
invariant-loop-block l = BlocksStand false l.old l.new l.from l.block
