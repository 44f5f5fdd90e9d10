use Rattle.std.proofs.Common.{MatchOption, Option, subst, arith}
use Rattle.nl_folders.proofs.Handing.{gives_behind}
use Rattle.nl_folders.specs.declared.plans.Handed.{Handed}
use Rattle.nl_folders.specs.declared.plans.Stage.TheVariants.{Clearing, Making}
use Rattle.nl_folders.specs.Private.Stages.{HandsOut, NeedsNoCall}
use Rattle.nl_folders.proofs.plans.next_at_rest.Goals as goal

pub returns-in-None : goal.returns-in-None
returns-in-None c =
    let s = c.args.sides.now in
    let left = c.args.left in
    gives_behind s (Clearing left) (Making 0) c.next_addition.result
    (subst (λ (given : Option Handed).
    MatchOption given (NeedsNoCall s (Clearing left) (Making 0)) (HandsOut s (Clearing left))) c.in-None.is
    c.in_ok-handed.ensures)
    (omega arith) c.next_addition.ensures
