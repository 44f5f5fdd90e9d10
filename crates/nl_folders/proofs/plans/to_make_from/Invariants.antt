use Rattle.nl_folders.specs.declared.plans.Stage.TheVariants.{Making}
use Rattle.nl_folders.specs.Private.Stages.{NeedsNoCall}
use Rattle.nl_folders.proofs.plans.to_make_from.Given as goal

abbrev pub invariant-loop-index : goal.invariant-loop-index
invariant-loop-index l = NeedsNoCall l.sides (Making l.done) (Making l.index)
