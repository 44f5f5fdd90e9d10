use Rattle.std.proofs.Common.{◌≡◌, drop}
use Rattle.nl_keep.specs.Private.Judged.{all_follow}
use Rattle.nl_keep.proofs.judging.all_follow.Given as goal

abbrev pub invariant-loop-later : goal.invariant-loop-later
invariant-loop-later l =
    all_follow l.earlier (drop l.later-index l.entries) ≡ all_follow l.first l.entries
