use Rattle.std.proofs.Common.{◌≡◌, ◌≤◌, length, take}
use Rattle.std.specs.List.{filter}
use Rattle.nl_types.specs.Plain.Rows.{is_snapshot}
use Rattle.nl_cpfile.proofs.judging.count_snapshots.Given as goal

abbrev pub invariant-loop-checkpoint : goal.invariant-loop-checkpoint
invariant-loop-checkpoint l =
    (l.count ≡ length (filter (λ c. is_snapshot c.mode) (take l.checkpoint-index l.kept)))
    × (l.count ≤ l.checkpoint-index)
