use Rattle.std.proofs.Common.{MatchOption, Option, length, ap, subst}
use Rattle.nl_folders.proofs.Handing.{plan_ended}
use Rattle.nl_folders.proofs.ReadEntries.{none_from}
use Rattle.nl_folders.specs.declared.plans.Handed.{Handed}
use Rattle.nl_folders.specs.declared.plans.Stage.TheVariants.{Making}
use Rattle.nl_folders.specs.Plans.{Planning}
use Rattle.nl_folders.specs.Private.Stages.{HandsOut, NeedsNoCall}
use Rattle.nl_folders.proofs.plans.Plan.next.Goals as goal

pub returns-in_default-clause-goes_on : goal.returns-in_default-clause-goes_on
returns-in_default-clause-goes_on c =
    let s = c.self.inside.sides in
    let stage = c.self.inside.stage in
    plan_ended s stage c.args.self.now.progress c.next_from.ensures.matched
    (ap (λ (p : Planning). p.progress) c.self.view_is)
    (subst (λ (given : Option Handed).
    MatchOption given (NeedsNoCall s stage (Making (length s.wanted))) (HandsOut s stage))
    (none_from c.in_ok-handed.field-0 c.in_default.not-Some) c.in_ok-handed.ensures.gives)
