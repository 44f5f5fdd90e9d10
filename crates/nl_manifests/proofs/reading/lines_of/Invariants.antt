use Rattle.std.proofs.Common.{◌≡◌, ◌-◌}
use Rattle.nl_manifests.specs.Private.Reading.{many, next_line_at}
use Rattle.nl_manifests.proofs.Loops.{with_front}
use Rattle.nl_manifests.proofs.reading.lines_of.Given as goal

abbrev pub invariant-loop : goal.invariant-loop
invariant-loop l =
    with_front l.lines (many next_line_at (l.limit - l.counter) l.left) ≡ many next_line_at l.limit l.bytes
