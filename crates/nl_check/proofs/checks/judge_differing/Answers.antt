use Rattle.std.proofs.Common.{subst, sym}
use Rattle.nl_check.specs.Facts.Below.{found-at}
use Rattle.nl_check.specs.Judging.{IsLast}
use Rattle.nl_check.specs.Private.Turns.{TellsChanges}
use Rattle.nl_check.proofs.checks.judge_differing.Goals as goal

pub judge_beside-requires-clause-last : goal.judge_beside-requires-clause-last
judge_beside-requires-clause-last g c =
    let last =
    found-at (IsLast (g.V.VRead.pages c.args.image.now.store.now)
    (g.V.VRead.periods c.args.image.now.store.now) c.args.found.now.met c.args.found.now.kinds
    c.args.before.now) c.args.before.now.last c.in-Some.last c.requires.last c.in-Some.is in
    last.good

pub judge_by_last-requires-clause-last : goal.judge_by_last-requires-clause-last
judge_by_last-requires-clause-last g c = λ held.
    let last =
    found-at (IsLast (g.V.VRead.pages c.args.image.now.store.now)
    (g.V.VRead.periods c.args.image.now.store.now) c.args.found.now.met c.args.found.now.kinds
    c.args.before.now) c.args.before.now.last c.in-Some.last c.requires.last c.in-Some.is in (
      c.args.found.now.met,
      last.exact held,
      subst (TellsChanges c.args.found.now.met c.judge_beside.new.found.met)
          (sym c.as_slice-changed.ensures.value) (c.in_ok-judge_beside.ensures.changed c.in-KnownGood.is),
    )
