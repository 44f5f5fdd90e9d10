use Rattle.std.proofs.Common.{◌≡◌, ℕ, List, subst, sym}
use Rattle.std.proofs.lemmas.Result.{IfOk-weaker}
use Rattle.nl_commit.specs.CleanerViews.{counts_after}
use Rattle.nl_cleaner.specs.Plan.{AreVictims}
use Rattle.nl_cleaner.specs.Private.Choice.{AreChosen, Ascend}
use Rattle.nl_cleaner.specs.declared.choice.Candidate.{Candidate}
use Rattle.nl_cleaner.proofs.Victims.{are-victims, ascends}
use Rattle.nl_cleaner.proofs.planning.victims.Goals as goal

pub choose-requires : goal.choose-requires
choose-requires g c =
    let (below, is) = c.requires in
    subst Ascend (sym (c.in_ok-found.ensures below is)) (ascends c.args.pen.now below c.args.least)

pub returns : goal.returns
returns g c =
    IfOk-weaker c.choose.result (λ v. AreChosen c.args.most c.in_ok-found.found.items v.items)
    (λ v.
    (below : ℕ) → c.args.needed.now ≡ counts_after c.args.pen.now below
    → AreVictims c.args.pen.now below c.args.least c.args.most v.items)
    (λ v are. λ below is. are-victims c.args.pen.now below c.args.least c.args.most v.items
    (subst (λ (found : List Candidate). AreChosen c.args.most found v.items)
    (c.in_ok-found.ensures below is) are))
    c.choose.ensures
