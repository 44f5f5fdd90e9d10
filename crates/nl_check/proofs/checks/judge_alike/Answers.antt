use Rattle.std.proofs.Common.{refl, inl}
use Rattle.nl_check.proofs.JudgedCheckpoints.{good-alike}
use Rattle.nl_check.proofs.checks.judge_alike.Goals as goal

pub judge_by_last-requires-clause-good : goal.judge_by_last-requires-clause-good
judge_by_last-requires-clause-good g c =
    good-alike (g.V.VRead.pages c.args.image.now.store.now) c.args.last.entry c.args.entry.now
    c.requires.alike c.args.found.now.met c.args.found.now.kinds c.args.before.now.trees c.requires.last.good

pub judge_by_last-requires-clause-last : goal.judge_by_last-requires-clause-last
judge_by_last-requires-clause-last g c = λ held.
    (c.args.found.now.met, c.requires.last.exact held, λ v. inl refl)
