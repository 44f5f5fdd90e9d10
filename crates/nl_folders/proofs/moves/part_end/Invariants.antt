use Rattle.std.proofs.Common.{◌≡◌, ℕ, ◌<◌, ◌≤◌, true}
use Rattle.nl_types.specs.Plain.Paths.{is_within}
use Rattle.nl_folders.specs.Private.Sides.{path_at}
use Rattle.nl_folders.proofs.moves.part_end.Given as goal

abbrev pub invariant-loop-end : goal.invariant-loop-end
invariant-loop-end l =
    (k : ℕ) → l.start ≤ k → k < l.end → is_within (path_at l.entries l.start) (path_at l.entries k) ≡ true
