use Rattle.std.proofs.Common.{◌≡◌, take}
use Rattle.nl_types.specs.Plain.Rows.{rows_between, judged_range}
use Rattle.nl_cpfile.specs.Tables.{rows_of}
use Rattle.nl_cpfile.proofs.judging.judge_all.Given as goal

abbrev pub invariant-loop-checkpoint : goal.invariant-loop-checkpoint
invariant-loop-checkpoint l =
    l.range ≡ judged_range l.latest (rows_between l.first l.last (rows_of (take l.checkpoint-index l.kept)))
