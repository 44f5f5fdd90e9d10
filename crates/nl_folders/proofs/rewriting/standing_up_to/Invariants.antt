use Rattle.std.proofs.Common.{true}
use Rattle.nl_folders.specs.Private.Rewriting.{BlocksStand}
use Rattle.nl_folders.proofs.rewriting.standing_up_to.Given as goal

abbrev pub invariant-loop-block : goal.invariant-loop-block
invariant-loop-block l = BlocksStand true l.old l.new l.from l.block
