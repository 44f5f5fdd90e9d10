use Rattle.std.proofs.Common.{MatchOption, Option, IfOk, length, subst, sym, arith}
use Rattle.nl_types.specs.Plain.Trees.{Tree}
use Rattle.nl_folders.proofs.Handing.{GivesAll, gives_behind}
use Rattle.nl_folders.specs.declared.plans.Handed.{Handed}
use Rattle.nl_folders.specs.declared.plans.Stage.{Stage}
use Rattle.nl_folders.specs.declared.plans.Stage.TheVariants.{Clearing, Moving}
use Rattle.nl_folders.specs.Private.Stages.{HandsOut, NeedsNoCall}
use Rattle.nl_folders.proofs.plans.next_from.Goals as goal

pub returns-in-None-clause-gives : goal.returns-in-None-clause-gives
returns-in-None-clause-gives c =
    let s = c.args.sides.now in
    let rest = Clearing (length s.present) in
    subst (λ (stage : Stage). IfOk c.next_at_rest.result (GivesAll s stage)) (sym c.in-Moving.is)
    (gives_behind s Moving rest c.next_at_rest.result
    (subst (λ (given : Option Handed). MatchOption given (NeedsNoCall s Moving rest) (HandsOut s Moving)) c.in-None.is
    c.in_ok-handed-in-Moving.ensures)
    (omega arith)
    (subst (λ (t : Tree). IfOk c.next_at_rest.result (GivesAll s (Clearing (length t)))) c.present-left.ensures.value
    c.next_at_rest.ensures))
