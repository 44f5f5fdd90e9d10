use Rattle.std.proofs.Common.{◌≡◌, ◌++◌, drop}
use Rattle.nl_manifests.specs.Private.Sealing.{EndsByLength, lines_until}
use Rattle.nl_manifests.proofs.sealing.lines_until.Given as goal

abbrev pub invariant-loop-entry : goal.invariant-loop-entry
invariant-loop-entry l =
    (l.lines ++ lines_until l.directory (drop l.entry-index l.behind) ≡ lines_until l.directory l.behind)
    × EndsByLength l.directory (drop l.entry-index l.behind)
